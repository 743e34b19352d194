-- Moves of the machine with one packet: it enters, is decided, and ends.
use Rattle.std.proofs.Common.{◌<◌, ◌≡◌, List, None, Some, arith, refl, ℕ}
use Rattle.update_machine.specs.Exports.{MachineDecides, MachinePacketEnd, MachineEndsPacket, MachineEnters, Header, Hit, Machine, MachinePacketMayEnd, Out, Row, machine_submitted_policy, machine_with_packet}
use Rattle.policy_rules.specs.Exports.{IsFirstPolicyMatch}
use Rattle.update_machine.specs.Machine.{Packet}
use Rattle.wrong_journals.specs.Exports.{wrong_journal_allowed, wrong_journals_policy}
use Rattle.wrong_journals.proofs.WrongJournalMatches.{by_100, first_of_allowed}

-- a packet that entered under this mark
abbrev pub comer : Header → ℕ → Packet
comer header mark = record { header = header; entry_mark = mark; decision = None; end = None }

-- and was decided so
abbrev pub decided : Header → ℕ → Hit → Packet
decided header mark hit = record (comer header mark) { decision = Some hit }

-- the first policy lets it out
abbrev pub let_out : Packet
let_out = decided wrong_journal_allowed 0 (by_100 (Out 2))

pub enters : (old : Machine) (header : Header) → old.packets 1 ≡ None
    → MachineEnters old 1 header (machine_with_packet old 1 (comer header old.mark))
enters old header unknown = record { unknown = unknown; after = refl }

pub decides : (old : Machine) (header : Header) (mark version : ℕ) (policy : List Row) (hit : Hit)
    → old.packets 1 ≡ Some (comer header mark) → mark < version
    → machine_submitted_policy old version ≡ Some policy → IsFirstPolicyMatch policy header hit
    → MachineDecides old 1 version hit (machine_with_packet old 1 (decided header mark hit))
decides old header mark version policy hit entered above submitted first = record {
  packet = comer header mark;
  policy = policy;
  entered = entered;
  undecided = refl;
  not_ended = refl;
  not_retired = above;
  submitted = submitted;
  first_match = first;
  after = refl;
}

pub ends : (old : Machine) (packet : Packet) (end : MachinePacketEnd) → old.packets 1 ≡ Some packet
    → packet.end ≡ None → MachinePacketMayEnd packet end
    → MachineEndsPacket old 1 end (machine_with_packet old 1 (record packet { end = Some end }))
ends old packet end entered going may =
    record { packet = packet; entered = entered; not_ended = going; may = may; after = refl }

pub lets_out : (old : Machine) → old.packets 1 ≡ Some (comer wrong_journal_allowed 0)
    → machine_submitted_policy old 1 ≡ Some wrong_journals_policy
    → MachineDecides old 1 1 (by_100 (Out 2)) (machine_with_packet old 1 let_out)
lets_out old entered submitted = decides old wrong_journal_allowed 0 1 wrong_journals_policy (by_100 (Out 2)) entered
    (omega arith) submitted first_of_allowed
