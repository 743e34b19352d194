-- The values of the definitions that contracts see for values of the code.
use Rattle.std.specs.Prelude.{if◌then◌else◌, ◌-◌, ◌==◌, Bool, List, MatchBool, None, Option, Some, nat_le, option_map, slice_get, ℕ}
use Rattle.base.specs.Exports.{get, nat_cmp, option_or}
use Rattle.five_tuple.specs.Exports.{header_of}
use Rattle.update_machine.specs.Exports.{Action, Drop, Dropped, MachinePacketEnd, Hit, LeftBy, Lost, Out, PolicyFile, Stuck}
use Rattle.update_machine.specs.Machine.{Packet}
use Rattle.trace_audit.specs.Reading.{AuditStateFollows, TraceLine, ReadsAuditLine, TraceState}
use Rattle.trace_audit.specs.Told.{AuditTold}
use Rattle.trace_audit.specs.Told as told
use Rattle.trace_audit.specs.declared.auditor.Auditor.{Auditor}
use Rattle.trace_audit.specs.declared.packets.PacketEnd.{PacketEnd}
use Rattle.trace_audit.specs.declared.packets.PacketEnd.TheVariants.{Going, AsDecided}
use Rattle.trace_audit.specs.declared.packets.PacketEnd.TheVariants as ending
use Rattle.trace_audit.specs.declared.packets.TracePacket.{TracePacket}
use Rattle.trace_audit.specs.declared.packets.AuditedPackets.{AuditedPackets}
use Rattle.trace_audit.specs.declared.packets.DecidedBy.{DecidedBy}
use Rattle.trace_audit.specs.declared.packets.DecidedBy.TheVariants.{Undecided, Default, Row}
use Rattle.trace_audit.specs.declared.told.End as code_end
use Rattle.trace_audit.specs.declared.told.End.TheVariants as end
use Rattle.trace_audit.specs.declared.told.LineMeaning.{LineMeaning}
use Rattle.trace_audit.specs.declared.told.LineMeaning.TheVariants as line

abbrev pub trace_end_seen : code_end.End → MachinePacketEnd
trace_end_seen end.Dropped = Dropped
trace_end_seen (end.LeftBy port) = LeftBy port
trace_end_seen end.Lost = Lost
trace_end_seen end.Stuck = Stuck

abbrev pub trace_told_seen : LineMeaning → AuditTold
trace_told_seen (line.Row header) = told.Row header
trace_told_seen (line.Entered packet) = told.Entered packet
trace_told_seen (line.Submitted file version) = told.Submitted file version
trace_told_seen (line.Retired version) = told.Retired version
trace_told_seen (line.Decided packet version rule action) =
    told.Decided packet version rule.now action.now
trace_told_seen (line.Ended packet end) = told.Ended packet (trace_end_seen end)
trace_told_seen line.Nothing = told.Nothing

-- the action of a packet's decision, if it has one
abbrev pub trace_action_seen : TracePacket → Action
trace_action_seen p = if p.is_out then Out p.port else Drop

-- the decision by this rule with this action; none if it is undecided
abbrev pub trace_decision_by : DecidedBy → ℕ → Action → Option Hit
trace_decision_by Undecided priority action = None
trace_decision_by Default priority action = Some (record { rule = None; action = action })
trace_decision_by Row priority action = Some (record { rule = Some priority; action = action })

-- an end as the action says
abbrev pub trace_end_by : Action → MachinePacketEnd
trace_end_by Drop = Dropped
trace_end_by (Out port) = LeftBy port

abbrev pub trace_ending_by : PacketEnd → Action → Option MachinePacketEnd
trace_ending_by Going action = None
trace_ending_by AsDecided action = Some (trace_end_by action)
trace_ending_by ending.Lost action = Some Lost
trace_ending_by ending.Stuck action = Some Stuck

abbrev pub audit_packet_seen : TracePacket → Packet
audit_packet_seen p = record {
  header = header_of (record {
    src = p.src;
    dst = p.dst;
    sport = p.sport;
    dport = p.dport;
    proto = p.proto;
  });
  entry_mark = p.entry_mark;
  decision = trace_decision_by p.rule p.priority (trace_action_seen p);
  end = trace_ending_by p.ending (trace_action_seen p);
}

-- the item of this number in a run whose numbers begin with `first`
abbrev pub trace_run_get : {A : Type 0} → ℕ → List A → ℕ → Option A
trace_run_get first run number = if nat_le first number then slice_get run (number - first) else None

-- the packet that is known by this number, if one is: in the run, or else among the others
abbrev pub trace_packets_seen : AuditedPackets → ℕ → Option Packet
trace_packets_seen p number = option_map audit_packet_seen
    (option_or (trace_run_get p.first p.run.items number) (get nat_cmp p.others number))

-- the machine, and the pending header
abbrev pub trace_state_seen : Auditor → TraceState
trace_state_seen a = record {
  machine = record {
    policies = a.policies.items;
    mark = a.mark;
    packets = trace_packets_seen a.packets;
  };
  pending = a.pending;
}

-- the packets with this one instead of what was known by its number
abbrev pub trace_packets_with_one : (ℕ → Option Packet) → ℕ → Packet → ℕ → Option Packet
trace_packets_with_one packets number packet = λ other. if other == number then Some packet else packets other

-- if good, what a line says led from one state to the other; if not, it leads to none
abbrev pub IsTraceLineTaken : List PolicyFile → TraceState → AuditTold → TraceState → Bool → Type 0
IsTraceLineTaken files old told new good = MatchBool good
    (AuditStateFollows files old told new) ((other : TraceState) → AuditStateFollows files old told other → ⊥)

-- the same for a line
abbrev pub IsTraceLineRead : List PolicyFile → TraceState → TraceLine → TraceState → Bool → Type 0
IsTraceLineRead files old line new good = MatchBool good
    (ReadsAuditLine files old line new) ((other : TraceState) → ReadsAuditLine files old line other → ⊥)
