-- Which status a command that began its work may end with, and which commands need memory or give
-- the meters back.
use Rattle.std.specs.Prelude.{[], ◌≡◌, ◌≢◌, ◌≤◌, ◌⊎◌, Bool, IsTrue, List, None, Option, Some, ⊤}
use Rattle.update_machine.specs.Exports.{Item}
use Rattle.shelf.specs.Exports.{SinkFaultsRose, SinkState}
use Rattle.command_line.specs.Exports.{Command}
use Rattle.command_line.specs.Commands as asked
use Rattle.command_line.specs.declared.report.Report.TheVariants as report
use Rattle.command_inputs.specs.declared.status.Status.{Status}
use Rattle.command_inputs.specs.declared.status.Status.TheVariants as status
use Rattle.difane_cli.specs.Run.{ProgramPlayWantsMemory}

-- the status of a command that began its work
abbrev pub IsProgramStatusAfterWork : Status → Type 0
IsProgramStatusAfterWork status.Ok = ⊤
IsProgramStatusAfterWork (status.No line) = ⊤
IsProgramStatusAfterWork status.WriteFault = ⊤
IsProgramStatusAfterWork (status.Full row) = ⊤
IsProgramStatusAfterWork status.NoMemory = ⊤
IsProgramStatusAfterWork _ = ⊥

-- the status is of a command that began its work, and reports a fault of the output exactly if
-- there was one
pub record ProgramStatusEndsWork (ended : Status) (before now : SinkState) : Type 0 where
  pub worked : IsProgramStatusAfterWork ended
  pub failed : ended ≡ status.WriteFault → SinkFaultsRose before.faults now.faults
  pub calm : ended ≢ status.WriteFault → now.faults ≡ before.faults
  pub faults : before.faults ≤ now.faults

-- ---- which commands need memory, and which give the meters back

-- the command may need memory after its play; only to write the lines of a journal it needs none
abbrev pub ProgramMayWantMemory : Option Command → Type 0
ProgramMayWantMemory (Some (asked.Replay args)) = ProgramPlayWantsMemory args.report None
ProgramMayWantMemory (Some (asked.Load n)) = ⊤
ProgramMayWantMemory _ = ⊥

-- memory ran out in the output's own writes, if they allocate. Or the output wasn't touched, and
-- either the journal is empty, or the command is one that may need memory after its play
abbrev pub ProgramMemoryRanOut : Option Command → (takes_memory : Bool) → List Item → (before now : SinkState)
    → Type 0
ProgramMemoryRanOut command takes_memory journal before now =
    IsTrue takes_memory ⊎ ((now ≡ before) × ((journal ≡ []) ⊎ ProgramMayWantMemory command))

-- arguments that the grammar doesn't have, a command that plays nothing, and one that proposes a
-- placement give the meters back unchanged
abbrev pub ProgramGivesBackMeters : Option Command → Type 0
ProgramGivesBackMeters None = ⊤
ProgramGivesBackMeters (Some (asked.Print args)) = ⊤
ProgramGivesBackMeters (Some (asked.Audit args)) = ⊤
ProgramGivesBackMeters (Some (asked.Replay args)) = args.report ≡ report.Placement
ProgramGivesBackMeters _ = ⊥
