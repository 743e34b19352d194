-- Versions, computed: what a switch holds, as the tables of a second version reach it before its
-- stamp does, and what is planned.
use Rattle.std.proofs.Common.{[], ◌++◌, ◌∙◌, ◌∷◌, ◌≡◌, ◌≤◌, List, ap, arith, false, inl, inr, length, refl, subst, sym, true, ℕ, rules}
use Rattle.base.proofs.Exports.{All-from_recursion, cases_lt}
use Rattle.update_machine.specs.Exports.{Collect, Drop, MachineVersionHasPlan, JournalItemsHaveCauses, Install, Item, OpenAt, Stamp, Step, MachineStepOfRow, Tables, journal_boot_of, journal_controller_heard, journal_current_mark, heard, holds_version, is_over, is_up, journal_known_boot, journal_message_of, journal_next_policy, piece, journal_retired_mark, serves, journal_stamp_of, journal_tables_at, machine_message_to_switch, journal_version_count}
use Rattle.steps.specs.Exports.{IsStep}
use Rattle.update_machine.proofs.Exports.{all_to, at, first_planned, none_of_7, open_net, plan_q, second_plan, second_planned, tables_of, versions}
use Rattle.control_laws.specs.Exports.{AreControlTablesOf, ControlMessageBringsPlannedTables, HasControlItemCause, ControlLawHoldsAtEnds, ControlLawHoldsBehindItems, ControlLawHoldsReached, ControlHoldsStampedVersions, ControlServingHoldVersions, ControlSubmissionHasCause, ControlTablesArePlanned, ControlVersionsArePlanned}
use Rattle.control_laws.proofs.ControlPlannedTables.{tables_planned}
use Rattle.control_laws.proofs.ControlMarkLaws.{serving_hold}

-- ---- causes of submissions, on journals of few items, and a fact that some reached journal lacks

-- ---- submissions

pub second_file : ControlSubmissionHasCause open_net [] 2 2
unfolding journal_version_count journal_retired_mark journal_next_policy
second_file = record {
  next = refl;
  rows = all_to Drop ∷ [];
  policy = refl;
  planned = refl;
  live = λ met. omega (arith, met);
  few = λ met. omega (arith, met);
}

pub no_third_file : ControlSubmissionHasCause open_net [] 3 2 → ⊥
unfolding journal_next_policy
no_third_file submits = cc submits.policy

pub no_version_3 : ControlSubmissionHasCause open_net [] 2 3 → ⊥
unfolding journal_version_count
no_version_3 submits = omega (arith, submits.next)

pub not_while_eight_live : ControlSubmissionHasCause open_net (versions 8 0) 2 9 → ⊥
unfolding journal_version_count journal_retired_mark
not_while_eight_live submits = submits.live refl

pub not_behind_64 : ControlSubmissionHasCause open_net (versions 64 60) 2 65 → ⊥
unfolding journal_version_count
not_behind_64 submits = submits.few refl

-- ---- what is reached

pub not_all_are_empty : ControlLawHoldsReached (λ setting journal. journal ≡ []) → ⊥
unfolding piece
not_all_are_empty holds = let one = at 1 (Step.Lose 1) ∷ [] in
    cc (holds.reached open_net _ (record {
      steps = one;
      own = All-from_recursion (λ (next : MachineStepOfRow). IsStep open_net.net (length open_net.files)
          next.step) one (omega arith, tt);
      written = refl;
    }))

pub not_empty_behind_items : ControlLawHoldsBehindItems (λ setting journal. journal ≡ []) → ⊥
unfolding piece
not_empty_behind_items holds = cc (holds.items open_net (at 1 (Step.Lose 1) ∷ []) 1)

pub not_empty_at_ends : ControlLawHoldsAtEnds (λ setting journal. journal ≡ []) → ⊥
unfolding piece
not_empty_at_ends holds = cc (holds.stepped open_net (at 1 (Step.Lose 1) ∷ []))

-- ---- version trials

abbrev pub second : Tables
second = record { version = 2; parts = []; auth = [] }

abbrev sent : List Item
sent = Item.Sent 1 (machine_message_to_switch 0 (Install 1 second)) ∷ Item.Delivered 1 ∷ Item.Current 2 ∷ []

abbrev installed : List Item
installed = Item.Submitted 2 2 ∷ sent

abbrev stamped : List Item
stamped = Item.Sent 2 (machine_message_to_switch 0 (Stamp 1 2 [])) ∷ Item.Delivered 2 ∷ []

only_two : (version : ℕ) → 2 ≤ version → version ≤ 2 → 2 ≡ version
only_two version above below = omega (arith, above, below)

only_one : (version : ℕ) → 1 ≤ version → version ≤ 1 → 1 ≡ version
only_one version above below = omega (arith, above, below)

holds_both : ControlHoldsStampedVersions (installed ++ stamped) 0
unfolding journal_boot_of heard is_up journal_current_mark journal_retired_mark journal_message_of holds_version journal_stamp_of
holds_both = search (rules, only_two)

-- a switch without the tables of its stamp doesn't hold it
abbrev untold : List Item
untold = Item.Submitted 2 2 ∷ Item.Current 2 ∷ stamped

not_without_tables : ControlHoldsStampedVersions untold 0 → ⊥
unfolding journal_boot_of heard is_up journal_current_mark journal_retired_mark journal_message_of holds_version journal_stamp_of
not_without_tables holds = let no : false ≡ true = holds.stamp in absurd cc

-- nor one that is told to drop them
abbrev dropped : List Item
dropped = (installed ++ stamped) ++ Item.Sent 3 (machine_message_to_switch 0 (Collect 1 2)) ∷ Item.Delivered 3 ∷ []

not_dropped : ControlHoldsStampedVersions dropped 0 → ⊥
unfolding journal_boot_of heard is_up journal_current_mark journal_retired_mark journal_message_of holds_version journal_stamp_of
not_dropped holds = let no : false ≡ true = holds.stamp in absurd cc

-- a switch that serves without its tables doesn't hold its stamp
not_while_serving : ControlServingHoldVersions open_net untold → ⊥
unfolding serves
not_while_serving hold = not_without_tables (hold 0 (omega arith) refl)

-- ---- plans and tables, of the second of two files

abbrev two_versions : List Item
two_versions = Item.Submitted 2 2 ∷ []

two_planned : ControlVersionsArePlanned open_net two_versions
unfolding journal_retired_mark journal_version_count
two_planned = record {
  few = omega arith;
  live = omega arith;
  planned = λ first version above below. elim (cases_lt 1 version) [
    | inl later ↦ subst (MachineVersionHasPlan open_net two_versions) (only_two version later below)
        (second_planned [] [] tt)
    | inr own ↦ subst (MachineVersionHasPlan open_net two_versions) (only_one version above own) (first_planned _)
  ];
}

-- nine versions that aren't retired are one too many, and so is a file without a policy
not_nine : ControlVersionsArePlanned open_net (versions 9 0) → ⊥
unfolding journal_retired_mark journal_version_count
not_nine are = absurd (omega (arith, are.live))

not_of_no_file : ControlVersionsArePlanned open_net (Item.Submitted 7 2 ∷ []) → ⊥
unfolding journal_version_count
not_of_no_file are = none_of_7 [] (are.planned (first_planned []) 2 (omega arith) (omega arith))

its_tables : AreControlTablesOf open_net two_versions 0 (tables_of plan_q 2 0)
unfolding journal_version_count
its_tables = record {
  first = omega arith;
  last = omega arith;
  planned = sym (of_second []);
  later = λ items. sym (of_second items);
} where
  of_second : (items : List Item)
      → journal_tables_at open_net (two_versions ++ items) 2 0 ≡ tables_of plan_q 2 0
  of_second items = ap (λ plan. tables_of plan 2 0) (second_plan [] items tt)

-- the tables of the second version have a partition
not_second : (items : List Item) → second ≡ journal_tables_at open_net (Item.Submitted 2 2 ∷ items) 2 0 → ⊥
not_second items is =
    let parts = ap (λ (tables : Tables). length tables.parts)
    (is ∙ ap (λ plan. tables_of plan 2 0) (second_plan [] items tt)) in
    absurd (omega (arith, parts))

not_others : AreControlTablesOf open_net two_versions 0 second → ⊥
not_others are = not_second [] are.planned

brings_its : ControlMessageBringsPlannedTables open_net two_versions 0 (Install 1 (tables_of plan_q 2 0))
brings_its = its_tables

brings_others : ControlMessageBringsPlannedTables open_net two_versions 0 (Install 1 second) → ⊥
brings_others = not_others

-- a body without tables brings none that are wrong
brings_none : ControlMessageBringsPlannedTables open_net two_versions 0 (OpenAt 1 7)
brings_none = tt

-- ---- whole journals

-- the second version was submitted, and its tables were sent to switch 0, which heard them
abbrev told : List Item
told = Item.Submitted 2 2 ∷ Item.Sent 1 (machine_message_to_switch 0 (Install 1 (tables_of plan_q 2 0)))
    ∷ Item.Delivered 1 ∷ []

told_rightly : JournalItemsHaveCauses (HasControlItemCause open_net) [] told
unfolding journal_version_count journal_retired_mark journal_known_boot is_over journal_controller_heard journal_next_policy
told_rightly = search (rules, second_file, its_tables)

-- each switch serves, and goes on to stamp with the first version
serve_once_told : ControlServingHoldVersions open_net told
serve_once_told = serving_hold open_net told told_rightly

tables_once_told : ControlTablesArePlanned open_net told
tables_once_told = tables_planned open_net told told_rightly

-- tables that aren't planned break it where they are sent, and where they are heard
not_of_no_plan : ControlTablesArePlanned open_net installed → ⊥
unfolding journal_message_of
not_of_no_plan are = not_second sent (are.sent 0 1 1 second refl).planned

not_heard_of_no_plan : ControlTablesArePlanned open_net installed → ⊥
unfolding heard is_up journal_boot_of journal_message_of
not_heard_of_no_plan are = not_second sent (are.heard 0 0 (OpenAt 1 1) (omega arith)).planned

-- and so does a version that is held without being there
not_held_unless_there : ControlTablesArePlanned open_net
    (Item.Sent 1 (machine_message_to_switch 0 (Install 1 second)) ∷ Item.Delivered 1 ∷ []) → ⊥
unfolding holds_version heard is_up journal_boot_of journal_message_of journal_version_count
not_held_unless_there are = let there = are.held 0 2 refl in absurd (omega (arith, there.1))
