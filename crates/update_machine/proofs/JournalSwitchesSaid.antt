-- What switches, links and messages are said to be, on journals of few items.
use Rattle.std.proofs.Common.{[], ◌++◌, ◌∷◌, ◌≡◌, List, None, Some, false, refl, true, ℕ}
use Rattle.update_machine.specs.Exports.{Body, Collect, Install, Item, Stamp, Step, journal_advert_known, journal_adverts_known, journal_boot_of, heard, holds_version, is_deliverable, is_forgotten_in_journal, is_link_up_in_journal, is_up, journal_message_of, near, next_travelling, next_waiting, own_advert, journal_own_seq, serves, journal_stamp_of, journal_steps_in, travels_in_journal, was_delivered_in_journal}
use Rattle.failover.specs.Exports.{adverts_after_hearing, first_adverts, is_advert_news}
use Rattle.base.specs.Exports.{small_number_mask, number_set_where, switches}
use Rattle.update_machine.proofs.JournalExampleNetworks.{advert, one, open_net, plan_p, ring, tables_of, to}

-- switch a is told this
abbrev told : ℕ → Body → List Item
told number body = Item.Sent number (to 0 body) ∷ Item.Delivered number ∷ []

-- ---- boots

abbrev restarted : List Item
restarted = told 1 (Stamp 1 2 []) ++ Item.Down 0 ∷ Item.Booted 0 2 ∷ []

pub boot_2 : journal_boot_of restarted 0 ≡ 2
unfolding journal_boot_of
boot_2 = refl

pub down_until_then : is_up (Item.Down 0 ∷ []) 0 ≡ false
unfolding is_up
down_until_then = refl

pub closed_in_boot_2 : serves restarted 0 ≡ false
unfolding serves
closed_in_boot_2 = refl

pub serves_once_opened : serves (restarted ++ Item.Opened 0 2 ∷ []) 0 ≡ true
unfolding serves
serves_once_opened = refl

-- what was heard is forgotten; what is for another boot, or comes while it is down, isn't heard; an
-- advert is for any boot
pub hears_again : heard (restarted ++ told 2 (Stamp 1 3 []) ++ told 3 (Stamp 2 3 [])
    ++ told 4 (advert 1 1 2 1)) 0 ≡ Stamp 2 3 [] ∷ advert 1 1 2 1 ∷ []
unfolding heard is_up journal_boot_of journal_message_of
hears_again = refl

pub hears_nothing_down : heard (Item.Down 0 ∷ told 1 (Stamp 1 2 [])) 0 ≡ []
unfolding heard is_up journal_boot_of journal_message_of
hears_nothing_down = refl

-- ---- versions

pub greatest_stamp : journal_stamp_of (told 1 (Stamp 1 3 []) ++ told 2 (Stamp 1 2 [])) 0 ≡ 3
unfolding journal_stamp_of heard is_up journal_boot_of journal_message_of
greatest_stamp = refl

pub no_stamp_in_boot_2 : journal_stamp_of restarted 0 ≡ 0
unfolding journal_stamp_of heard is_up journal_boot_of journal_message_of
no_stamp_in_boot_2 = refl

-- it holds what was installed, but for what was collected
abbrev collected : List Item
collected = told 1 (Install 1 (tables_of plan_p 2 0)) ++ told 2 (Install 1 (tables_of plan_p 3 0))
    ++ told 3 (Collect 1 2)

pub holds : (holds_version (told 1 (Install 1 (tables_of plan_p 2 0))) 0 2 ≡ true)
    × (holds_version collected 0 1 ≡ false) × (holds_version collected 0 2 ≡ false)
    × (holds_version collected 0 3 ≡ true) × (holds_version restarted 0 1 ≡ false)
unfolding holds_version heard is_up journal_boot_of journal_message_of
holds = (refl, refl, refl, refl, refl)

-- ---- links

-- in the ring a has links to b and c: at first, without b, without itself, without the link to c
pub nears : (near ring [] 0 ≡ 6) × (near ring (Item.Down 1 ∷ []) 0 ≡ 4)
    × (near ring (Item.Down 0 ∷ []) 0 ≡ 0) × (near ring (Item.LinkIs 0 2 false ∷ []) 0 ≡ 2)
unfolding near is_link_up_in_journal serves small_number_mask number_set_where switches
nears = (refl, refl, refl, refl)

-- ---- adverts

-- two links that fail in one step count once, and one in the next step once more
abbrev failing : List Item
failing = Item.Row 1 (Step.Crash 1) ∷ Item.LinkIs 0 1 false ∷ Item.LinkIs 0 2 false
    ∷ Item.Row 2 (Step.LinkUp 0 2) ∷ Item.LinkIs 0 2 true ∷ []

pub seq_of_steps : journal_own_seq ring failing 0 ≡ 3
unfolding journal_own_seq journal_steps_in near is_link_up_in_journal serves is_up journal_boot_of small_number_mask number_set_where switches
seq_of_steps = refl

-- what changed in an earlier boot doesn't count
pub seq_in_boot_2 : journal_own_seq ring (failing ++ Item.Row 3 (Step.Crash 0) ∷ Item.Down 0 ∷ Item.Row 4
    (Step.Restart 0) ∷ Item.Booted 0 2 ∷ Item.Row 5 (Step.Deliver 9) ∷ Item.Opened 0 1 ∷ []) 0 ≡ 1
unfolding journal_own_seq journal_steps_in near is_link_up_in_journal serves is_up journal_boot_of small_number_mask number_set_where switches
seq_in_boot_2 = refl

pub seq_down : journal_own_seq ring (failing ++ Item.Row 3 (Step.Crash 0) ∷ Item.Down 0 ∷ []) 0 ≡ 0
unfolding journal_own_seq journal_steps_in near is_link_up_in_journal serves is_up journal_boot_of small_number_mask number_set_where switches
seq_down = refl

-- the first advert of b counts in boot 1, until a newer one is heard; an older one changes nothing;
-- in boot 2 it knows of none, nor of itself; of itself it knows its own, whatever it hears
pub adverts_of_a :
    (journal_advert_known open_net [] 0 1 ≡ Some (record { origin = 1; boot = 1; seq = 1; up = 1 }))
    × (journal_advert_known open_net (told 1 (advert 1 1 3 0) ++ told 2 (advert 1 1 2 1)) 0 1
    ≡ Some (record { origin = 1; boot = 1; seq = 3; up = 0 }))
    × (journal_advert_known open_net (told 1 (advert 1 1 3 0) ++ told 2 (advert 1 2 1 1)) 0 1
    ≡ Some (record { origin = 1; boot = 2; seq = 1; up = 1 }))
    × (journal_advert_known open_net restarted 0 1 ≡ None) × (journal_advert_known open_net restarted 0 0 ≡ None)
    × (journal_advert_known open_net (told 1 (advert 0 1 9 0)) 0 0
    ≡ Some (record { origin = 0; boot = 1; seq = 1; up = 2 }))
unfolding journal_adverts_known own_advert journal_own_seq journal_steps_in near is_link_up_in_journal serves is_up journal_boot_of heard
    journal_message_of first_adverts adverts_after_hearing is_advert_news switches small_number_mask number_set_where
adverts_of_a = (refl, refl, refl, refl, refl, refl)

-- ---- messages

abbrev sent : List Item
sent = Item.Sent 1 (to 0 (Stamp 1 1 [])) ∷ Item.Sent 2 (to 0 (Stamp 1 1 []))
    ∷ Item.Sent 3 (to 0 (Stamp 1 1 [])) ∷ Item.Forgotten 1 ∷ Item.Delivered 2 ∷ []

pub forgotten_is_gone : is_deliverable sent 1 ≡ false
unfolding is_deliverable is_forgotten_in_journal journal_message_of
forgotten_is_gone = refl

pub delivered_may_come_again : is_deliverable sent 2 ≡ true
unfolding is_deliverable is_forgotten_in_journal journal_message_of
delivered_may_come_again = refl

pub unsent_is_none : is_deliverable sent 4 ≡ false
unfolding is_deliverable is_forgotten_in_journal journal_message_of
unsent_is_none = refl

pub third_waits : next_waiting sent ≡ Some 3
unfolding next_waiting is_deliverable is_forgotten_in_journal was_delivered_in_journal journal_message_of
third_waits = refl

pub first_waits_first :
    next_waiting (Item.Sent 1 (to 0 (Stamp 1 1 [])) ∷ Item.Sent 2 (to 0 (Stamp 1 1 [])) ∷ []) ≡ Some 1
unfolding next_waiting is_deliverable is_forgotten_in_journal was_delivered_in_journal journal_message_of
first_waits_first = refl

-- ---- packets

pub first_travels_first : next_travelling (Item.Entered 1 0 one ∷ Item.Entered 2 0 one
    ∷ Item.Entered 3 0 one ∷ []) ≡ Some 1
unfolding next_travelling travels_in_journal
first_travels_first = refl

pub second_travels_next : next_travelling (Item.Entered 1 0 one ∷ Item.Entered 2 0 one
    ∷ Item.Entered 3 0 one ∷ Item.Dropped 1 ∷ []) ≡ Some 2
unfolding next_travelling travels_in_journal
second_travels_next = refl
