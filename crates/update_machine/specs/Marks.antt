-- The marks of the versions, as the controller knows them: which one is current, which are retired,
-- and what each switch acknowledged. It is the two-phase update of Reitblatt, Foster, Rexford,
-- Schlesinger and Walker, "Abstractions for Network Update", with acknowledgements of our own.
use Rattle.std.specs.Prelude.{[], if◌then◌else◌, ◌&&◌, ◌++◌, ◌+◌, ◌-◌, ◌<◌, ◌==◌, ◌∷◌, ◌≡◌, ◌≤◌, ◌⊎◌, All, Bool, IsFalse, IsTrue, List, None, Option, Some, false, filter, filter_map, fold, is_some, length, map, max, min, nat_eq, nat_lt, not, option_and_then, option_to_list, take_while, true, unwrap_or, ℕ}
use Rattle.base.specs.Exports.{list_all, list_any, option_map_or, range_with_len, reduce}
use Rattle.ctrl_msg.specs.declared.message.Body.{Body}
use Rattle.ctrl_msg.specs.declared.message.Body.TheVariants.{OpenAt, Hello, Installed, Stamped}
use Rattle.journal.specs.declared.item.Item.{Item}
use Rattle.journal.specs.declared.item.Item.TheVariants as item
use Rattle.update_machine.specs.Folds.{journal_all_given, journal_folded_value, journal_last_given}
use Rattle.update_machine.specs.Messages.{is_machine_receiver_controller}
use Rattle.update_machine.specs.Setting.{Setting}
use Rattle.update_machine.specs.SwitchNumbers.{machine_switches_of}
use Rattle.update_machine.specs.Versions.{journal_version_count}
use Rattle.update_machine.specs.Boots.{is_journal_receiver_switch}
use Rattle.update_machine.specs.Links.{journal_message_of}

-- ---- what the controller hears

-- what the message of this number says to the controller, if it is for it
abbrev pub journal_body_to_controller : List Item → ℕ → Option Body
journal_body_to_controller before number = elim (journal_message_of before number) [
  | None ↦ None
  | Some message ↦ if is_machine_receiver_controller message.to then Some message.body else None
]

abbrev pub machine_changes_controller_heard : List Item → List Body → Item → List Body
machine_changes_controller_heard before bodies (item.Delivered number) =
    bodies ++ option_to_list (journal_body_to_controller before number)
machine_changes_controller_heard before bodies _ = bodies

-- the bodies that were delivered to the controller
unfoldable pub journal_controller_heard : List Item → List Body
journal_controller_heard journal = journal_folded_value machine_changes_controller_heard [] journal

-- ---- what it knows of a switch

abbrev pub machine_hello_boot : ℕ → Body → Option ℕ
machine_hello_boot s (Hello switch boot) = if switch == s then Some boot else None
machine_hello_boot s _ = None

-- the greatest boot of the switch's hellos; it is 1 if there is none
unfoldable pub journal_known_boot : List Item → ℕ → ℕ
journal_known_boot journal s = fold max 1 (filter_map (machine_hello_boot s) (journal_controller_heard journal))

-- the message of this number is a hello of the switch with a greater boot than the known one
abbrev pub journal_raises_known_boot : List Item → ℕ → ℕ → Bool
journal_raises_known_boot before s number =
    option_map_or (λ boot. nat_lt (journal_known_boot before s) boot)
    (option_and_then (machine_hello_boot s) (journal_body_to_controller before number)) false

abbrev pub machine_item_changes_over : ℕ → List Item → Bool → Item → Bool
machine_item_changes_over s before over (item.OverNow switch) = if switch == s then true else over
machine_item_changes_over s before over (item.Delivered number) =
    if journal_raises_known_boot before s number then false else over
machine_item_changes_over s before over _ = over

-- there is an `OverNow` of the switch since its known boot became known
unfoldable pub is_over : List Item → ℕ → Bool
is_over journal s = journal_folded_value (machine_item_changes_over s) false journal

abbrev pub machine_open_version_in : ℕ → Body → List ℕ
machine_open_version_in boot (OpenAt of version) = if of == boot then version ∷ [] else []
machine_open_version_in boot _ = []

-- the version of an Open message of this boot to the switch
abbrev pub machine_open_sent : ℕ → ℕ → Item → List ℕ
machine_open_sent s boot (item.Sent number message) =
    if is_journal_receiver_switch s message.to then machine_open_version_in boot message.body else []
machine_open_sent s boot _ = []

-- the first of these, if there is one
abbrev pub machine_first_open : List ℕ → Option ℕ
machine_first_open [] = None
machine_first_open (x ∷ xs) = Some x

-- the version at which the switch was opened in its known boot: 1 in boot 1
unfoldable pub journal_opened_at : List Item → ℕ → Option ℕ
journal_opened_at journal s = if journal_known_boot journal s == 1
    then Some 1
    else machine_first_open (journal_all_given (machine_open_sent s (journal_known_boot journal s)) journal)

abbrev pub open_version : List Item → ℕ → ℕ
open_version journal s = unwrap_or (journal_opened_at journal s) 0

-- it isn't over, and was opened in its known boot
unfoldable pub is_member : List Item → ℕ → Bool
is_member journal s = not (is_over journal s) && is_some (journal_opened_at journal s)

-- it is neither over nor a member
abbrev pub is_joining : List Item → ℕ → Bool
is_joining journal s = not (is_over journal s) && not (is_member journal s)

-- the members, ascending
abbrev pub members : Setting → List Item → List ℕ
members setting journal = filter (is_member journal) (machine_switches_of setting)

abbrev pub machine_installed_version : ℕ → ℕ → Body → Option ℕ
machine_installed_version s boot (Installed switch of version) =
    if switch == s && of == boot then Some version else None
machine_installed_version s boot _ = None

-- the versions whose tables the switch acknowledged in its known boot: version 1 in boot 1
abbrev pub acked : List Item → ℕ → List ℕ
acked journal s =
    (if journal_known_boot journal s == 1 then 1 ∷ [] else [])
    ++ filter_map (machine_installed_version s (journal_known_boot journal s)) (journal_controller_heard journal)

unfoldable pub has_acked : List Item → ℕ → ℕ → Bool
has_acked journal s version = list_any (nat_eq version) (acked journal s)

abbrev pub machine_stamped_version_in : ℕ → ℕ → Body → Option ℕ
machine_stamped_version_in s boot (Stamped switch of version) =
    if switch == s && of == boot then Some version else None
machine_stamped_version_in s boot _ = None

-- the greatest version with which a member is known to stamp: at least that at which it was opened
unfoldable pub acked_stamp : List Item → ℕ → ℕ
acked_stamp journal s =
    fold max (open_version journal s)
    (filter_map (machine_stamped_version_in s (journal_known_boot journal s)) (journal_controller_heard journal))

-- ---- the marks

abbrev pub machine_item_gives_current : Item → Option ℕ
machine_item_gives_current (item.Current version) = Some version
machine_item_gives_current _ = None

unfoldable pub journal_current_mark : List Item → ℕ
journal_current_mark journal = unwrap_or (journal_last_given machine_item_gives_current journal) 1

abbrev pub machine_item_gives_retired : Item → Option ℕ
machine_item_gives_retired (item.Retired version) = Some version
machine_item_gives_retired _ = None

unfoldable pub journal_retired_mark : List Item → ℕ
journal_retired_mark journal = unwrap_or (journal_last_given machine_item_gives_retired journal) 0

-- each member acknowledged the version
abbrev pub machine_all_acked : Setting → List Item → ℕ → Bool
machine_all_acked setting journal version =
    list_all (λ s. has_acked journal s version) (members setting journal)

-- this many versions may exist and not be retired, and this many in all
abbrev pub most_live_journal_versions : ℕ
most_live_journal_versions = 8

abbrev pub most_journal_versions : ℕ
most_journal_versions = 64

-- the versions above the current one, ascending
abbrev pub journal_later_versions : List Item → List ℕ
journal_later_versions journal =
    range_with_len (journal_current_mark journal + 1) (journal_version_count journal - journal_current_mark journal)

-- the greatest version up to which each member acknowledged every version above the current one
unfoldable pub journal_next_current : Setting → List Item → ℕ
journal_next_current setting journal =
    journal_current_mark journal + length (take_while (machine_all_acked setting journal) (journal_later_versions journal))

-- the least of numbers, if there is one
abbrev pub machine_least_number : List ℕ → Option ℕ
machine_least_number numbers = reduce min numbers

-- one less than the least acknowledged stamp of the members, or than current if there is none
unfoldable pub journal_next_retired : Setting → List Item → ℕ
journal_next_retired setting journal =
    unwrap_or (machine_least_number (map (acked_stamp journal) (members setting journal)))
    (journal_current_mark journal) - 1

-- ---- the rule of the marks

-- clause (a): current rises only to a version that exists, and only if each member acknowledged
-- every version above the old mark up to it
pub record MachineCurrentMayRise (setting : Setting) (before : List Item) (version : ℕ) : Type 0 where
  pub rises : journal_current_mark before < version
  pub there : version ≤ journal_version_count before
  pub acknowledged : (v : ℕ) → journal_current_mark before < v → v ≤ version →
      IsTrue (machine_all_acked setting before v)

-- the other clauses are true at the end of each step
pub record AreMachineMarksSettled (setting : Setting) (journal : List Item) : Type 0 where
  -- (b) current is the last version, or a member didn't acknowledge the next one
  pub current : (journal_current_mark journal ≡ journal_version_count journal)
      ⊎ IsFalse (machine_all_acked setting journal (journal_current_mark journal + 1))
  -- (c) no joining switch acknowledged the current version
  pub joining : All (λ s. IsTrue (is_joining journal s) →
      IsFalse (has_acked journal s (journal_current_mark journal))) (machine_switches_of setting)
  -- (d) retired is as far as the members' acknowledged stamps allow
  pub retired : journal_retired_mark journal ≡ journal_next_retired setting journal
