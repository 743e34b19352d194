-- First tier. The outcome of a call of the program, by its status: a replay's, or a load case's.
use Rattle.std.specs.Prelude.{[], ◌≡◌, ◌⊎◌, Bool, IsTrue, List, None, Ok, Option, Result, Some, false, length, true, ℕ, ⊤}
use Rattle.base.specs.Exports.{AllZip, ForSome}
use Rattle.net_file.specs.Exports.{net_of}
use Rattle.policy_file.specs.Exports.{policy_file_of}
use Rattle.schedule.specs.Reading.{schedule_of}
use Rattle.shelf.specs.Exports.{ShelfFiles, SinkGainedPart, SinkState, shelf_file_named}
use Rattle.update_machine.specs.Exports.{HasMachineCause, JournalItemsHaveCauses, IsMachinePlay, IsMachineRun, Item}
use Rattle.meters.specs.Exports.{SeenMeter}
use Rattle.packet_laws.specs.Exports.{ArePacketRowsEntered, PacketLawsHeldThroughout, PacketStrongCause, packet_law_rows_played}
use Rattle.forwarding_laws.specs.Exports.{KeepsForwarding}
use Rattle.command_inputs.specs.Exports.{Inputs, AreCommandPlayInputs, known_command_input_task, MayPlayCommandInputs, Play}
use Rattle.difane_cli.specs.FlowLines.{ProgramCountsFlows, program_gone_records_by}
use Rattle.difane_cli.specs.Texts.{program_play_text}
use Rattle.difane_cli.specs.Verdict.{IsProgramQuietVerdict, program_asks_quiet, is_program_verdict_asked}
use Rattle.command_line.specs.Exports.{Command, ReplayArguments}
use Rattle.command_line.specs.Commands as asked
use Rattle.command_line.specs.declared.report.Report.{Report}
use Rattle.command_line.specs.declared.report.Report.TheVariants as report
use Rattle.command_inputs.specs.declared.status.Status.{Status}
use Rattle.difane_cli.specs.Writes.{ProgramOutputWrote, ProgramOutputWrotePart, ProgramUnplayed}
use Rattle.difane_cli.specs.Audits.{ProgramAuditOutcome, IsProgramTraceGood}
use Rattle.difane_cli.specs.Prints.{ProgramPrintOutcome}
use Rattle.difane_cli.specs.Proposed.{ProgramProposalOutcome}
use Rattle.replay.specs.Leavings.{replay_kept_meters}
use Rattle.command_inputs.specs.declared.status.Status.TheVariants as status

-- ---- plays

-- the bytes of the file of this name are read as this value
abbrev pub ProgramFileStates : {V E : Type 0} → ShelfFiles → (List ℕ → Result V E) → List ℕ → V → Type 0
ProgramFileStates files read name value =
    (bytes : List ℕ) × (shelf_file_named files name ≡ Some bytes) × (read bytes ≡ Ok value)

-- the inputs are what the files state that a replay names: the network, if it names one; the
-- events, on this network and with this many files; and the policies and changes, in their order
pub record AreProgramInputsStated (files : ShelfFiles) (command : ReplayArguments) (inputs : Inputs) : Type 0 where
  pub net : ForSome command.net (λ name. ProgramFileStates files net_of name inputs.setting.net)
  pub events : ProgramFileStates files (schedule_of inputs.setting.net (length command.policies))
      command.schedule inputs.events
  pub policies : AllZip (ProgramFileStates files policy_file_of) command.policies inputs.setting.files

-- the inputs of a replay are what its files state, if these are known
abbrev pub AreKnownProgramInputsStated : Option ShelfFiles → Command → Inputs → Type 0
AreKnownProgramInputsStated files (asked.Replay args) inputs = ForSome files (λ all. AreProgramInputsStated all args inputs)
AreKnownProgramInputsStated files _ inputs = ⊤

-- the journal is that of the play of these inputs, to its end or to a row at which it stopped full;
-- the inputs are those of the files and of the task, if these are known. So the journal is a run of
-- the machine, its ends and items have their causes, and its rows and entries are the schedule's.
-- The invariants were true on the way; and the network recovers, and drops nothing in a rollout
pub record IsProgramAnswer (command : Command) (files : Option ShelfFiles) (inputs : Inputs)
    (journal : List Item) (full : Option ℕ) : Type 0 where
  pub asked : AreCommandPlayInputs command inputs
  pub stated : AreKnownProgramInputsStated files command inputs
  pub accepted : ForSome (known_command_input_task files (Some command)) (λ read. read ≡ Ok (Play inputs))
  pub sound : MayPlayCommandInputs inputs
  pub play : IsMachinePlay inputs.setting inputs.events journal full
  pub run : IsMachineRun inputs.setting journal
  pub causes : JournalItemsHaveCauses (HasMachineCause inputs.setting) [] journal
  pub strong : JournalItemsHaveCauses (PacketStrongCause inputs.setting) [] journal
  pub entered : ArePacketRowsEntered (packet_law_rows_played full inputs.events) journal
  pub held : PacketLawsHeldThroughout inputs.setting journal
  pub works : KeepsForwarding inputs.setting inputs.events journal full

-- there are inputs such that the journal is that of their play, to its end or to a row at which it
-- stopped full. The meters that were given back are those that stayed of the ones that were taken,
-- and flow meters counted right. The output gained what the play prints. For a replay this is the
-- text of the journal and, unless it stopped full, the meters' lines, and with `--quiet` whether
-- the network is quiet. If it is, all have converged, on the newest version. Each line of this text
-- is good as a trace's, so `audit` says yes, up to the longest trace that it accepts. Otherwise it
-- is flow records or a summary, unless it stopped full
pub record Played (command : Command) (files : Option ShelfFiles) (full : Option ℕ)
    (journal : List Item) (taken given : List SeenMeter) (before now : SinkState) : Type 0 where
  pub inputs : Inputs
  pub played : IsProgramAnswer command files inputs journal full
  pub kept : given ≡ replay_kept_meters inputs.setting.net journal taken
  pub counted : ProgramCountsFlows journal taken given
  pub answer : Option Bool
  pub verdict : IsProgramQuietVerdict (program_asks_quiet inputs.report) inputs.setting journal full answer
  pub written : ProgramOutputWrote (program_play_text inputs.report inputs.setting.net journal full
      (program_gone_records_by inputs.setting.net journal taken) given answer) before now
  pub good : IsProgramTraceGood inputs (program_play_text inputs.report inputs.setting.net journal full
      (program_gone_records_by inputs.setting.net journal taken) given answer)

-- the same for a play to its end or stopped full, but a write failed after a part of the text
pub record ProgramPlayedCutShort (command : Command) (files : Option ShelfFiles) (journal : List Item)
    (taken given : List SeenMeter) (before now : SinkState) : Type 0 where
  pub inputs : Inputs
  pub full : Option ℕ
  pub played : IsProgramAnswer command files inputs journal full
  pub kept : given ≡ replay_kept_meters inputs.setting.net journal taken
  pub answer : Option Bool
  pub verdict : IsProgramQuietVerdict (program_asks_quiet inputs.report) inputs.setting journal full answer
  pub written : SinkGainedPart before.bytes (program_play_text inputs.report inputs.setting.net journal full
      (program_gone_records_by inputs.setting.net journal taken) given answer) now.bytes

-- the summary and the flows, which a play that stopped full doesn't have, are made in memory
-- before they are written; the journal's lines aren't
abbrev pub is_program_output_made : Report → Option ℕ → Bool
is_program_output_made (report.Lines quiet) full = false
is_program_output_made _ None = true
is_program_output_made _ (Some row) = false

-- a play that didn't stop full needs memory after it: to see whether the network is quiet, with
-- `--quiet`, and for what is made in memory
abbrev pub ProgramPlayWantsMemory : Report → Option ℕ → Type 0
ProgramPlayWantsMemory asked full = IsTrue (is_program_verdict_asked (program_asks_quiet asked) full) ⊎ IsTrue (is_program_output_made asked full)

-- the same for a play to its end or one that stopped full, but memory ran out after it, if it
-- needs any or the output's writes allocate; a part of the text was written, or none of it
pub record ProgramPlayedUnfinished (command : Command) (files : Option ShelfFiles) (takes_memory : Bool)
    (journal : List Item) (taken given : List SeenMeter) (before now : SinkState) : Type 0 where
  pub inputs : Inputs
  pub full : Option ℕ
  pub wanted : IsTrue takes_memory ⊎ ProgramPlayWantsMemory inputs.report full
  pub played : IsProgramAnswer command files inputs journal full
  pub kept : given ≡ replay_kept_meters inputs.setting.net journal taken
  pub answer : Option Bool
  pub verdict : (answer ≡ None)
      ⊎ IsProgramQuietVerdict (program_asks_quiet inputs.report) inputs.setting journal full answer
  pub written : ProgramOutputWrotePart (program_play_text inputs.report inputs.setting.net journal full
      (program_gone_records_by inputs.setting.net journal taken) given answer) before now

-- the journal, the meters and the output that each status of a play ensures; if nothing was played,
-- no meter remains or, if memory ran out before the command was read, all do
abbrev pub ProgramPlayOutcome : Command → Option ShelfFiles → (takes_memory : Bool) → Status → List Item
    → (taken given : List SeenMeter) → (before now : SinkState) → Type 0
ProgramPlayOutcome command files takes_memory status.Ok journal taken given before now =
    Played command files None journal taken given before now
ProgramPlayOutcome command files takes_memory (status.Full row) journal taken given before now =
    Played command files (Some row) journal taken given before now
ProgramPlayOutcome command files takes_memory status.WriteFault journal taken given before now =
    ProgramPlayedCutShort command files journal taken given before now
ProgramPlayOutcome command files takes_memory status.NoMemory journal taken given before now =
    (ProgramUnplayed journal before now × ((given ≡ []) ⊎ (given ≡ taken)))
    ⊎ ProgramPlayedUnfinished command files takes_memory journal taken given before now
ProgramPlayOutcome command files takes_memory (status.No line) journal taken given before now = ⊥
ProgramPlayOutcome command files takes_memory _ journal taken given before now =
    ProgramUnplayed journal before now × (given ≡ [])

-- ---- all commands

-- the outcome of a play by what it prints: a proposal, or anything else
abbrev pub ProgramPlayedByReport : Report → (proposes plays : Type 0) → Type 0
ProgramPlayedByReport report.Placement proposes plays = proposes
ProgramPlayedByReport _ proposes plays = plays

-- the journal, the meters that were taken and given back, and the output that each status of a
-- command ensures
abbrev pub ProgramOutcome : Option Command → Option ShelfFiles → (takes_memory : Bool) → Status → List Item
    → (taken given : List SeenMeter) → (before now : SinkState) → Type 0
ProgramOutcome None files takes_memory status journal taken given before now = ProgramUnplayed journal before now
ProgramOutcome (Some (asked.Print args)) files takes_memory status journal taken given before now =
    ProgramPrintOutcome args files status journal before now
ProgramOutcome (Some (asked.Audit args)) files takes_memory status journal taken given before now =
    ProgramAuditOutcome args files status journal before now
ProgramOutcome (Some (asked.Replay args)) files takes_memory status journal taken given before now =
    ProgramPlayedByReport args.report
    (ProgramProposalOutcome (IsProgramAnswer (asked.Replay args) files) takes_memory status journal before now)
    (ProgramPlayOutcome (asked.Replay args) files takes_memory status journal taken given before now)
ProgramOutcome (Some command) files takes_memory status journal taken given before now =
    ProgramPlayOutcome command files takes_memory status journal taken given before now
