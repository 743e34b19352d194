-- Moves that the abstract machine doesn't make: what a journal that is a run never says.
use Rattle.std.proofs.Common.{◌≡◌, List, None, Option, Some, arith, length, option_map, ℕ, rules}
use Rattle.base.proofs.Exports.{slice_get_within, some_same}
use Rattle.update_machine.specs.Exports.{Action, MachineDecides, Dropped, MachinePacketEnd, MachineEndsPacket, MachineEnters, Header, Hit, LeftBy, Machine, Out, MachineRetires, Row, MachineSubmits}
use Rattle.update_machine.specs.Machine.{Packet}

-- ---- policies and the mark

-- a version has the next number, and a file that is there
not_past_the_next : (old new : Machine) (made : Option (List Row)) → length old.policies ≡ 1
    → MachineSubmits old 3 made new → ⊥
not_past_the_next old new made first submits = omega (arith, first, submits.newest)

not_of_no_file : (old new : Machine) (version : ℕ) → MachineSubmits old version None new → ⊥
not_of_no_file old new version submits = cc submits.there

-- the newest version isn't retired, and none is retired twice
not_the_newest : (old new : Machine) → length old.policies ≡ 2 → MachineRetires old 2 new → ⊥
not_the_newest old new two retires = omega (arith, two, retires.below_newest)

not_again : (old new : Machine) → old.mark ≡ 1 → MachineRetires old 1 new → ⊥
not_again old new one retires = omega (arith, one, retires.rises)

-- ---- packets

not_in_twice : (old new : Machine) (packet : Packet) (header : Header)
    → old.packets 1 ≡ Some packet → MachineEnters old 1 header new → ⊥
not_in_twice old new packet header entered enters = search rules

not_decided_before_it_is_in : (old new : Machine) (version : ℕ) (hit : Hit)
    → old.packets 1 ≡ None → MachineDecides old 1 version hit new → ⊥
not_decided_before_it_is_in old new version hit unknown decides = search rules

-- who is decided is undecided, and hasn't ended
open_until_decided : (old new : Machine) (packet : Packet) (version : ℕ) (hit : Hit)
    → old.packets 1 ≡ Some packet → MachineDecides old 1 version hit new
    → (packet.decision ≡ None) × (packet.end ≡ None)
open_until_decided old new packet version hit entered decides = search (rules, some_same)

not_decided_twice : (old new : Machine) (packet : Packet) (version : ℕ) (first hit : Hit)
    → old.packets 1 ≡ Some packet → packet.decision ≡ Some first → MachineDecides old 1 version hit new → ⊥
not_decided_twice old new packet version first hit entered decided decides =
    search (rules, open_until_decided)

not_decided_once_it_ended : (old new : Machine) (packet : Packet) (version : ℕ) (hit : Hit)
    (end : MachinePacketEnd) → old.packets 1 ≡ Some packet → packet.end ≡ Some end
    → MachineDecides old 1 version hit new → ⊥
not_decided_once_it_ended old new packet version hit end entered ended decides =
    search (rules, open_until_decided)

not_by_a_version_to_come : (old new : Machine) (hit : Hit) → length old.policies ≡ 1
    → MachineDecides old 1 3 hit new → ⊥
not_by_a_version_to_come old new hit one decides = omega (arith, slice_get_within)

not_ended_twice : (old new : Machine) (packet : Packet) (first other : MachinePacketEnd)
    → old.packets 1 ≡ Some packet → packet.end ≡ Some first → MachineEndsPacket old 1 other new → ⊥
not_ended_twice old new packet first other entered ended ends = search (rules, some_same)

-- ---- ends are as they were decided

-- the action of a packet's decision
abbrev action_of : Packet → Option Action
action_of packet = option_map (λ (hit : Hit). hit.action) packet.decision

not_dropped_undecided : (old new : Machine) (packet : Packet) → old.packets 1 ≡ Some packet
    → packet.decision ≡ None → MachineEndsPacket old 1 Dropped new → ⊥
not_dropped_undecided old new packet entered undecided ends = search (rules, some_same)

same_port : (port other : ℕ) → Some (Out port) ≡ Some (Out other) → port ≡ other
same_port port other same = cc

not_out_by_another_port : (old new : Machine) (packet : Packet) (hit : Hit) → old.packets 1
    ≡ Some packet → packet.decision ≡ Some hit → hit.action ≡ Out 2 → MachineEndsPacket old 1 (LeftBy 3) new → ⊥
not_out_by_another_port old new packet hit entered decided by ends =
    search (rules, some_same, same_port)

not_dropped_that_is_let_out : (old new : Machine) (packet : Packet) (hit : Hit) → old.packets 1
    ≡ Some packet → packet.decision ≡ Some hit → hit.action ≡ Out 2 → MachineEndsPacket old 1 Dropped new → ⊥
not_dropped_that_is_let_out old new packet hit entered decided by ends = search (rules, some_same)
