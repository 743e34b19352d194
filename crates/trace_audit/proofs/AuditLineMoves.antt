-- Moves of the machine that a line may tell, and such that it may not.
use Rattle.std.proofs.Common.{◌∙◌, ◌≡◌, List, Option, Some, ap, get_or, length, ltb, ltb-true, refl, slice_get, subst, true, ℕ}
use Rattle.base.proofs.Exports.{same_some, slice_get_read}
use Rattle.policy_rules.specs.Exports.{IsFirstPolicyMatch}
use Rattle.update_machine.specs.Exports.{MachineDecides, Hit, Machine, Row, machine_submitted_policy}
use Rattle.update_machine.specs.Machine.{Packet}
use Rattle.trace_audit.specs.Exports.{IsAuditDecisionPrinted, trace_packets_seen, trace_packets_with_one}
use Rattle.trace_audit.specs.declared.auditor.Auditor.{Auditor}

-- what is known, except the packets
abbrev with_packets : Auditor → (ℕ → Option Packet) → Machine
with_packets a packets = record { policies = a.policies.items; mark = a.mark; packets = packets }

-- the item at a place of a slice is there in the list
pub policy_there : (slice items : List (List Row)) (place : ℕ) (rows : List Row) → slice ≡ items
    → ltb place (length slice) ≡ true → rows ≡ get_or slice place rows
    → slice_get items place ≡ Some rows
policy_there slice items place rows e within there = subst (λ xs. slice_get xs place ≡ Some rows) e
    (slice_get_read slice (length slice) place rows refl (ltb-true _ _ within) there)

-- a decision that isn't printed in the texts of the first match is none
pub not_decided : (old new : Machine) (number version : ℕ) (rule action : List ℕ)
    (packet : Packet) (rows : List Row) (hit g : Hit) → old.packets number ≡ Some packet
    → machine_submitted_policy old version ≡ Some rows
    → ((h : Hit) → IsFirstPolicyMatch rows packet.header h → h ≡ hit) → (IsAuditDecisionPrinted rule action hit → ⊥)
    → IsAuditDecisionPrinted rule action g → MachineDecides old number version g new → ⊥
not_decided old new number version rule action packet rows hit g there submitted only bad printed d =
    let packets : d.packet ≡ packet = same_some d.packet packet _ d.entered there in
    let policies : d.policy ≡ rows = same_some d.policy rows _ d.submitted submitted in
    bad (subst (IsAuditDecisionPrinted rule action) (only g (subst (λ x. IsFirstPolicyMatch x packet.header g) policies
    (subst (λ x. IsFirstPolicyMatch d.policy x.header g) packets d.first_match))) printed)

-- a packet is put, and nothing else changes
pub put_after : (a : Auditor) (number : ℕ) (after : ℕ → Option Packet) (put packet : Packet)
    → put ≡ packet → after ≡ trace_packets_with_one (trace_packets_seen a.packets) number put
    → with_packets a after ≡ with_packets a (trace_packets_with_one (trace_packets_seen a.packets) number packet)
put_after a number after put packet is done = ap (with_packets a)
    (done ∙ ap (trace_packets_with_one (trace_packets_seen a.packets) number) is)
