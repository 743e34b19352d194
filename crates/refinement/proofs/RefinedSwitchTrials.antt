-- What journals say about a switch and its calls, computed on journals of few items.
use Rattle.std.proofs.Common.{[], ◌++◌, ◌∙◌, ◌∷◌, ◌≡◌, List, None, Some, ap, false, map, nat_eq, refl, slice_get, subst, sym, true, ℕ}
use Rattle.base.proofs.Exports.{list_any}
use Rattle.update_machine.specs.Exports.{Body, Collect, Drop, Install, Item, Out, Seek, Step, journal_boot_of, journal_cache_of, journal_usable_links_changed, heard, holds_version, is_link_up_in_journal, is_up, journal_message_of, near, journal_own_seq, serves, journal_stamp_of, journal_steps_in}
use Rattle.base.specs.Exports.{small_number_mask, number_set_where, switches}
use Rattle.switch_table.specs.Exports.{HostedPolicyPartition}
use Rattle.ternary.specs.Exports.{holds}
use Rattle.update_machine.proofs.Exports.{any_word, first_plan, one, open_net, plan_p, rule, tables_of, to}
use Rattle.control_laws.specs.Exports.{ControlLegEndsAt}
use Rattle.refinement.specs.Exports.{AreRefinedInStep, CanRefinedSwitchRestart, RefinementLeavesSwitch, refined_message_at, refined_switch_of, refined_tables_kept}

-- switch a is told this
abbrev told : ℕ → Body → List Item
told number body = Item.Sent number (to 0 body) ∷ Item.Delivered number ∷ []

abbrev install : ℕ → Body
install version = Install 1 (tables_of plan_p version 0)

-- ---- tables

-- in the order in which they came, those of a version once
abbrev installed : List Item
installed = told 1 (install 3) ++ told 2 (install 2) ++ told 3 (install 3)

in_order : map (λ tables. tables.version) (refined_tables_kept open_net installed 0) ≡ 1 ∷ 3 ∷ 2 ∷ []
unfolding holds_version heard is_up journal_boot_of journal_message_of
in_order = refl

-- up to the collect mark they go, which a lower one leaves as it is
abbrev collected : List Item
collected = installed ++ told 4 (Collect 1 2) ++ told 5 (Collect 1 1)

mark_2 : (refined_switch_of open_net collected 0).collected ≡ 2
unfolding refined_switch_of heard is_up journal_boot_of journal_message_of
mark_2 = refl

third_is_left : map (λ tables. tables.version) (refined_tables_kept open_net collected 0) ≡ 3 ∷ []
unfolding holds_version heard is_up journal_boot_of journal_message_of
third_is_left = refl

-- tables of another boot aren't kept, nor those that came to another switch
not_of_boot_2 : map (λ tables. tables.version)
    (refined_tables_kept open_net (told 1 (Install 2 (tables_of plan_p 2 0))) 0) ≡ 1 ∷ []
unfolding holds_version heard is_up journal_boot_of journal_message_of
not_of_boot_2 = refl

none_in_boot_2 :
    (refined_switch_of open_net (installed ++ Item.Down 0 ∷ Item.Booted 0 2 ∷ []) 0).tables ≡ []
unfolding refined_switch_of holds_version heard is_up journal_boot_of journal_message_of
none_in_boot_2 = refl

-- no cached rule is there whose time may be up
no_entry : refined_message_at open_net installed 0 0 ≡ None
unfolding refined_switch_of journal_cache_of heard is_up journal_boot_of journal_message_of journal_stamp_of
no_entry = refl

-- ---- links

-- the failing link is the next number of each end's advert, and concerns neither as a switch
abbrev failed : List Item
failed = Item.Row 1 (Step.LinkDown 0 1) ∷ Item.LinkIs 0 1 false ∷ []

second_advert : (refined_switch_of open_net failed 0).seq ≡ 2
unfolding refined_switch_of journal_own_seq near is_link_up_in_journal serves is_up journal_boot_of journal_steps_in small_number_mask number_set_where
    switches
second_advert = refl

changed_at_a : journal_usable_links_changed open_net [] failed 0 ≡ true
unfolding near is_link_up_in_journal serves is_up journal_boot_of small_number_mask number_set_where switches
changed_at_a = refl

leaves_a : RefinementLeavesSwitch 0 [] 1 (Step.LinkDown 0 1) (Item.LinkIs 0 1 false ∷ [])
leaves_a = record { in_step = (tt, tt); apart = (refl, (refl, tt)); calls = (refl, (refl, tt)) }

-- but a crash of a does something to it, which leaves b
not_in_its_crash : RefinementLeavesSwitch 0 [] 1 (Step.Crash 0) (Item.Down 0 ∷ []) → ⊥
not_in_its_crash leaves = let no : true ≡ false = leaves.apart.1.0 in cc

in_that_of_another : RefinementLeavesSwitch 1 [] 1 (Step.Crash 0) (Item.Down 0 ∷ [])
in_that_of_another = record {
  in_step = (tt, tt);
  apart = (refl, (refl, tt));
  calls = (refl, (refl, tt));
}

-- ---- calls

-- a step has one row, and one packet enters at its beginning
not_two_rows : AreRefinedInStep (Item.Row 2 (Step.Hop 1) ∷ []) → ⊥
not_two_rows are = absurd are.0

not_two_packets : AreRefinedInStep (Item.Entered 2 0 one ∷ []) → ⊥
not_two_packets are = absurd are.0

-- the partition is on b, so a isn't where its leg leads
abbrev only : HostedPolicyPartition
only = (
  record {
    number = 0;
    region = any_word;
    rules = rule any_word 0 (Some 100) (Out 2) ∷ rule any_word 1 None Drop ∷ [];
  },
  1 ∷ [],
)

ends_at_b : ControlLegEndsAt open_net [] 1 one (Seek 1 0)
unfolding holds
ends_at_b = record {
  hosted = only;
  found = ap (λ plan. slice_get plan 0) (first_plan []);
  number = refl;
  holds = refl;
  target = refl;
}

not_at_a : ControlLegEndsAt open_net [] 0 one (Seek 1 0) → ⊥
not_at_a ends =
    let found = sym (ap (λ plan. slice_get plan 0) (first_plan [])) ∙ ends.found in
    let same : only ≡ ends.hosted = cc in
    let target : list_any (nat_eq 0) (1 ∷ []) ≡ true =
    subst (λ (hosted : HostedPolicyPartition). list_any (nat_eq 0) hosted.1 ≡ true) (sym same) ends.target in
    cc

-- a switch that is up isn't restarted
not_up : CanRefinedSwitchRestart (refined_switch_of open_net [] 0) → ⊥
unfolding refined_switch_of is_up
not_up can = let no : true ≡ false = can.down in cc
