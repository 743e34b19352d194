-- Journals that are no runs of the machine.
use Rattle.std.proofs.Common.{[], ◌++◌, ◌<◌, ◌∙◌, ◌∷◌, ◌≡◌, List, None, Some, arith, refl, subst, sym, ℕ}
use Rattle.std.proofs.lemmas.Option.{none-some, same_Some}
use Rattle.policy_rules.specs.Exports.{IsFirstPolicyMatch}
use Rattle.update_machine.specs.Exports.{MachineDecides, Drop, Dropped, MachinePacketEnd, MachineEndsPacket, Hit, IsMachineRun, LeftBy, Machine, MachinePacketMayEnd, Out, Row, machine_submitted_policy}
use Rattle.journal.specs.declared.item.Item.TheVariants as item
use Rattle.steps.specs.declared.step.Step.TheVariants as step
use Rattle.update_machine.specs.Machine.{Packet}
use Rattle.wrong_journals.specs.Exports.{wrong_journal_allowed, wrong_journal_another_row, right_journal_decided, wrong_journal_decided_twice, wrong_journal_denied, wrong_journal_dropped_undecided, wrong_journal_gets, wrong_journal_half_and_half, wrong_journals_in_at_a, wrong_journals_behind_update, wrong_journal_office, wrong_journals_policy, wrong_journal_other_port, wrong_journal_retired_version, wrong_journals_second_policy, wrong_journal_unknown_version}
use Rattle.wrong_journals.proofs.WrongJournalMatches.{by_100, no_first_of_denied, no_second_of_allowed}
use Rattle.wrong_journals.proofs.WrongJournalMachine.{move_at}
use Rattle.wrong_journals.proofs.WrongJournalMoves.{comer, let_out}

-- ---- what a decision and an end say of a packet that is known

own_packet : (old : Machine) (number version : ℕ) (got : Hit) (new : Machine) (packet : Packet)
    (decides : MachineDecides old number version got new) → old.packets number ≡ Some packet
    → decides.packet ≡ packet
own_packet old number version got new packet decides known =
    same_Some decides.packet packet (sym decides.entered ∙ known)

first_match : (old : Machine) (number version : ℕ) (got : Hit) (new : Machine) (packet : Packet)
    (policy : List Row) → MachineDecides old number version got new → old.packets number ≡ Some packet
    → machine_submitted_policy old version ≡ Some policy → IsFirstPolicyMatch policy packet.header got
first_match old number version got new packet policy decides known there =
    subst (λ (p : Packet). IsFirstPolicyMatch policy p.header got)
    (own_packet old number version got new packet decides known)
    (subst (λ (rows : List Row). IsFirstPolicyMatch rows decides.packet.header got)
    (same_Some decides.policy policy (sym decides.submitted ∙ there)) decides.first_match)

above_mark : (old : Machine) (number version : ℕ) (got : Hit) (new : Machine) (packet : Packet)
    → MachineDecides old number version got new → old.packets number ≡ Some packet
    → packet.entry_mark < version
above_mark old number version got new packet decides known = subst (λ (p : Packet). p.entry_mark
    < version) (own_packet old number version got new packet decides known) decides.not_retired

undecided : (old : Machine) (number version : ℕ) (got : Hit) (new : Machine) (packet : Packet)
    → MachineDecides old number version got new → old.packets number ≡ Some packet → packet.decision ≡ None
undecided old number version got new packet decides known = subst (λ (p : Packet). p.decision
    ≡ None) (own_packet old number version got new packet decides known) decides.undecided

may_end : (old : Machine) (number : ℕ) (end : MachinePacketEnd) (new : Machine) (packet : Packet)
    → MachineEndsPacket old number end new → old.packets number ≡ Some packet → MachinePacketMayEnd packet end
may_end old number end new packet ends known = subst (λ (p : Packet). MachinePacketMayEnd p end)
    (same_Some ends.packet packet (sym ends.entered ∙ known)) ends.may

-- ---- journals

pub another_row_is_no_run : IsMachineRun wrong_journal_office wrong_journal_another_row → ⊥
another_row_is_no_run run =
    no_first_of_denied (first_match _ 1 1 (by_100 (Out 2)) _ (comer wrong_journal_denied 0) wrong_journals_policy
    (move_at wrong_journal_office (wrong_journals_in_at_a wrong_journal_denied) (wrong_journal_gets 1 (Out 2)) [] run).1 refl refl)

pub retired_version_is_no_run : IsMachineRun wrong_journal_office wrong_journal_retired_version → ⊥
retired_version_is_no_run run =
    let above : 1 < 1 = above_mark _ 1 1 (by_100 (Out 2)) _ (comer wrong_journal_allowed 1)
    (move_at wrong_journal_office (item.Row 1 (step.Update 2) ∷ item.Submitted 2 2 ∷ item.Retired 1 ∷ item.Row 2
    (step.Packet 0 wrong_journal_allowed) ∷ item.Entered 1 0 wrong_journal_allowed ∷ []) (wrong_journal_gets 1 (Out 2)) [] run).1 refl in
    omega (arith, above)

pub unknown_version_is_no_run : IsMachineRun wrong_journal_office wrong_journal_unknown_version → ⊥
unknown_version_is_no_run run = let move = move_at wrong_journal_office (wrong_journals_in_at_a wrong_journal_allowed) (wrong_journal_gets 2 Drop) [] run in
    none-some move.1.policy move.1.submitted

pub decided_twice_is_no_run : IsMachineRun wrong_journal_office wrong_journal_decided_twice → ⊥
decided_twice_is_no_run run = none-some (by_100 (Out 2)) (sym (undecided _ 1 2 (by_100 Drop) _
    let_out (move_at wrong_journal_office right_journal_decided (wrong_journal_gets 2 Drop) [] run).1 refl))

pub half_and_half_is_no_run : IsMachineRun wrong_journal_office wrong_journal_half_and_half → ⊥
half_and_half_is_no_run run =
    no_second_of_allowed (first_match _ 1 2 (by_100 (Out 2)) _ (comer wrong_journal_allowed 0) wrong_journals_second_policy
    (move_at wrong_journal_office wrong_journals_behind_update (wrong_journal_gets 2 (Out 2)) [] run).1 refl refl)

pub other_port_is_no_run : IsMachineRun wrong_journal_office wrong_journal_other_port → ⊥
other_port_is_no_run run =
    let may : Some (Out 2) ≡ Some (Out 1) = may_end _ 1 (LeftBy 1) _ let_out
    (move_at wrong_journal_office (wrong_journals_in_at_a wrong_journal_allowed ++ wrong_journal_gets 1 (Out 2) ∷ []) (item.Left 1 1
    (record { packet = 1; header = wrong_journal_allowed; version = 1; rule = Some 100 })) [] run).1 refl in
    cc

pub dropped_undecided_is_no_run : IsMachineRun wrong_journal_office wrong_journal_dropped_undecided → ⊥
dropped_undecided_is_no_run run = none-some Drop (may_end _ 1 Dropped _ (comer wrong_journal_allowed 0)
    (move_at wrong_journal_office (wrong_journals_in_at_a wrong_journal_allowed) (item.Dropped 1) [] run).1 refl)
