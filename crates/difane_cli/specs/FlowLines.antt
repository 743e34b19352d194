-- What `flows` writes: the flow records of the meters that left, and then of those that stayed; and
-- what these records count.
use Rattle.std.specs.Prelude.{[], ◌++◌, All, List, None, Option, Some, flat_map, ℕ}
use Rattle.flow_export.specs.Counted.{IsFlowCounted, IsNewFlowMeter}
use Rattle.flow_export.specs.Lines.{exported_flow_lines}
use Rattle.update_machine.specs.Exports.{Item, Net}
use Rattle.meters.specs.Exports.{SeenMeter, meter_flow_records_of, gone_meter_records}
use Rattle.meters.specs.declared.flows.FlowRecord.{FlowRecord}
use Rattle.net_file.specs.Exports.{port_mask}
use Rattle.replay.specs.Leavings.{replay_left_in}

-- the records of the meters that left when the packets of this journal left the network
abbrev pub program_gone_records_by : Net → List Item → List SeenMeter → List FlowRecord
program_gone_records_by net journal meters = gone_meter_records (port_mask net.switches) (replay_left_in journal) meters

-- the lines of those records, and of the records of the meters that stayed
abbrev pub program_flow_text : List FlowRecord → List SeenMeter → List ℕ
program_flow_text gone meters = exported_flow_lines gone ++ exported_flow_lines (flat_map meter_flow_records_of meters)

-- a play that stopped full has no flow lines
abbrev pub program_flow_text_unless_full : Option ℕ → List FlowRecord → List SeenMeter → List ℕ
program_flow_text_unless_full None gone meters = program_flow_text gone meters
program_flow_text_unless_full (Some row) gone meters = []

-- ---- counts

-- each record of a meter that stayed counts all packets that left by its port with its header; if
-- no meter left, each record does (`flow_laws`)
abbrev pub AreProgramFlowsCounted : List Item → (given : List SeenMeter) → Type 0
AreProgramFlowsCounted journal given = All (IsFlowCounted (replay_left_in journal)) (flat_map meter_flow_records_of given)

-- this is true if the meters that the command got are empty flow meters
abbrev pub ProgramCountsFlows : List Item → (taken given : List SeenMeter) → Type 0
ProgramCountsFlows journal taken given = (most : ℕ) → All (IsNewFlowMeter most) taken → AreProgramFlowsCounted journal given
