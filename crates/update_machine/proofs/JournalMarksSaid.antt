-- What the controller is said to know, on journals of few items.
use Rattle.std.proofs.Common.{[], ◌++◌, ◌∷◌, ◌≡◌, List, Some, false, refl, true, ℕ}
use Rattle.update_machine.specs.Exports.{Body, Hello, Installed, Item, OpenAt, Stamped, acked_stamp, journal_controller_heard, journal_current_mark, has_acked, is_joining, is_member, is_over, journal_known_boot, journal_message_of, journal_next_current, journal_next_retired, journal_opened_at, journal_version_count}
use Rattle.update_machine.proofs.JournalExampleNetworks.{open_net, to, to_controller}

-- the controller is told this
abbrev told : ℕ → Body → List Item
told number body = Item.Sent number (to_controller body) ∷ Item.Delivered number ∷ []

-- ---- boots

pub greatest_boot : journal_known_boot (told 1 (Hello 0 3) ++ told 2 (Hello 0 2)) 0 ≡ 3
unfolding journal_known_boot journal_controller_heard journal_message_of
greatest_boot = refl

pub boot_of_b : journal_known_boot (told 1 (Hello 0 3)) 1 ≡ 1
unfolding journal_known_boot journal_controller_heard journal_message_of
boot_of_b = refl

-- ---- switches that are over

abbrev over : List Item
over = Item.OverNow 0 ∷ []

pub over_by_item : is_over over 0 ≡ true
unfolding is_over journal_known_boot journal_controller_heard journal_message_of
over_by_item = refl

pub over_in_its_boot : is_over (over ++ told 1 (Hello 0 1)) 0 ≡ true
unfolding is_over journal_known_boot journal_controller_heard journal_message_of
over_in_its_boot = refl

pub back_in_the_next : is_over (over ++ told 1 (Hello 0 2)) 0 ≡ false
unfolding is_over journal_known_boot journal_controller_heard journal_message_of
back_in_the_next = refl

-- ---- members

abbrev back : List Item
back = told 1 (Hello 0 2) ++ told 2 (Installed 0 1 2) ++ told 3 (Stamped 0 1 7)

pub joins_in_boot_2 : is_joining back 0 ≡ true
unfolding is_member is_over journal_opened_at journal_known_boot journal_controller_heard journal_message_of
joins_in_boot_2 = refl

-- the first Open of its boot makes it a member
abbrev opened : List Item
opened = back ++ Item.Sent 4 (to 0 (OpenAt 1 1)) ∷ Item.Sent 5 (to 0 (OpenAt 2 3))
    ∷ Item.Sent 6 (to 0 (OpenAt 2 4)) ∷ []

pub opened_at_3 : journal_opened_at opened 0 ≡ Some 3
unfolding journal_opened_at journal_known_boot journal_controller_heard journal_message_of
opened_at_3 = refl

pub member_once_opened : is_member opened 0 ≡ true
unfolding is_member is_over journal_opened_at journal_known_boot journal_controller_heard journal_message_of
member_once_opened = refl

pub no_member_over : is_member (opened ++ Item.OverNow 0 ∷ []) 0 ≡ false
unfolding is_member is_over journal_opened_at journal_known_boot journal_controller_heard journal_message_of
no_member_over = refl

-- ---- acknowledgements

-- what it said in boot 1 doesn't count in boot 2
pub nothing_acked : has_acked back 0 2 ≡ false
unfolding has_acked journal_known_boot journal_controller_heard journal_message_of
nothing_acked = refl

pub not_version_1 : has_acked back 0 1 ≡ false
unfolding has_acked journal_known_boot journal_controller_heard journal_message_of
not_version_1 = refl

pub acked_in_boot_2 : has_acked (back ++ told 4 (Installed 0 2 2)) 0 2 ≡ true
unfolding has_acked journal_known_boot journal_controller_heard journal_message_of
acked_in_boot_2 = refl

pub stamp_of_the_open : acked_stamp opened 0 ≡ 3
unfolding acked_stamp journal_opened_at journal_known_boot journal_controller_heard journal_message_of
stamp_of_the_open = refl

pub greatest_stamp : acked_stamp (opened ++ told 7 (Stamped 0 2 5) ++ told 8 (Stamped 0 2 4)) 0 ≡ 5
unfolding acked_stamp journal_opened_at journal_known_boot journal_controller_heard journal_message_of
greatest_stamp = refl

-- ---- marks

-- of three versions both switches acknowledged the second, and one of them the third
abbrev three : List Item
three = Item.Submitted 1 2 ∷ Item.Submitted 2 3 ∷ told 1 (Installed 0 1 2)
    ++ told 2 (Installed 1 1 2) ++ told 3 (Installed 0 1 3)

pub current_to_2 : journal_next_current open_net three ≡ 2
unfolding journal_next_current is_member is_over journal_opened_at has_acked journal_known_boot journal_controller_heard
    journal_message_of journal_current_mark journal_version_count
current_to_2 = refl

-- without the second one the third one isn't enough
pub current_stays : journal_next_current open_net
    (Item.Submitted 1 2 ∷ Item.Submitted 2 3 ∷ told 1 (Installed 0 1 3) ++ told 2 (Installed 1 1 3))
    ≡ 1
unfolding journal_next_current is_member is_over journal_opened_at has_acked journal_known_boot journal_controller_heard
    journal_message_of journal_current_mark journal_version_count
current_stays = refl

-- a switch that is over hinders nothing
pub current_without_b : journal_next_current open_net (three ++ Item.OverNow 1 ∷ []) ≡ 3
unfolding journal_next_current is_member is_over journal_opened_at has_acked journal_known_boot journal_controller_heard
    journal_message_of journal_current_mark journal_version_count
current_without_b = refl

pub retired_by_the_least :
    journal_next_retired open_net (told 1 (Stamped 0 1 5) ++ told 2 (Stamped 1 1 3)) ≡ 2
unfolding journal_next_retired acked_stamp is_member is_over journal_opened_at journal_known_boot journal_controller_heard
    journal_message_of journal_current_mark
retired_by_the_least = refl

-- without a member it follows the current mark
pub retired_without_members :
    journal_next_retired open_net (Item.Current 4 ∷ Item.OverNow 0 ∷ Item.OverNow 1 ∷ []) ≡ 3
unfolding journal_next_retired acked_stamp is_member is_over journal_opened_at journal_known_boot journal_controller_heard
    journal_message_of journal_current_mark
retired_without_members = refl
