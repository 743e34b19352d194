-- The outcome of a call that begins with a new meter at each port.
use Rattle.std.specs.Prelude.{◌≡◌, Bool, List, None, Option, Some, true, ℕ}
use Rattle.command_line.specs.Exports.{Command, command_of_arguments}
use Rattle.difane_cli.specs.FlowLines.{AreProgramFlowsCounted, program_flow_text, program_gone_records_by}
use Rattle.difane_cli.specs.Run.{IsProgramAnswer, ProgramOutcome}
use Rattle.command_inputs.specs.Exports.{Inputs}
use Rattle.difane_cli.specs.Writes.{ProgramOutputWrote}
use Rattle.command_inputs.specs.declared.status.Status.{Status}
use Rattle.update_machine.specs.Exports.{Item, Net}
use Rattle.meters.specs.Exports.{SeenMeter}
use Rattle.difane_cli.specs.NewMeters.{program_call_asks_flows, new_program_meters}
use Rattle.replay.specs.Leavings.{replay_kept_meters}
use Rattle.shelf.specs.Exports.{ShelfFiles, SinkState}

-- the outcome of the command that the arguments are, with these meters
abbrev pub MeteredProgramOutcome : (texts : List (List ℕ)) → Option ShelfFiles → (takes_memory : Bool) → Status
    → List Item → (before now : SinkState) → Type 0
MeteredProgramOutcome texts files takes_memory status journal before now =
    (given : List SeenMeter) × ProgramOutcome (command_of_arguments texts) files takes_memory status journal
    (new_program_meters (program_call_asks_flows texts)) given before now

-- the output gained the lines of the flow records of the new meters that left while the packets of
-- this journal left the network, and then of those that stayed. Each record of one that stayed
-- counts all packets that left by its port with its header
pub record WritesProgramFlowCounts (net : Net) (journal : List Item) (before now : SinkState) : Type 0 where
  pub written : ProgramOutputWrote (program_flow_text (program_gone_records_by net journal (new_program_meters true))
      (replay_kept_meters net journal (new_program_meters true))) before now
  pub counted : AreProgramFlowsCounted journal (replay_kept_meters net journal (new_program_meters true))

-- the arguments are a command, the journal is that of its play, and the output gained its flows
pub record ProgramTellsFlows (texts : List (List ℕ)) (files : Option ShelfFiles) (journal : List Item)
    (before now : SinkState) : Type 0 where
  pub command : Command
  pub asked : command_of_arguments texts ≡ Some command
  pub inputs : Inputs
  pub played : IsProgramAnswer command files inputs journal None
  pub flows : WritesProgramFlowCounts inputs.setting.net journal before now
