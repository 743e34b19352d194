-- The outcome of a command that prints a plan or tables, by its status; and the output after a text
-- was written.
use Rattle.std.specs.Prelude.{[], ◌≡◌, ◌≢◌, ◌≤◌, ◌⊎◌, Bool, Err, IsErrOf, IsTrue, List, None, Ok, OnErr, OnOk, Option, Result, Some, ℕ, ⊤}
use Rattle.base.specs.Exports.{ForSome}
use Rattle.update_machine.specs.Exports.{Item}
use Rattle.show_text.specs.Text.{compile_text, table_text}
use Rattle.switch_table.specs.Exports.{tables_of}
use Rattle.shelf.specs.Exports.{ShelfFiles, IsSinkAfterWrite, SinkGainedPart, SinkFaultsRose, SinkState, sink_with_gained}
use Rattle.shelf.specs.declared.output.SinkError.{SinkError}
use Rattle.shelf.specs.declared.output.SinkError.TheVariants.{Failed, NoMemory}
use Rattle.command_inputs.specs.Exports.{IsPrintInputOf, command_status_after, known_command_input_task, Print, CommandPrintInputs}
use Rattle.command_inputs.specs.declared.status.Status.{Status}
use Rattle.difane_cli.specs.Writes.{ProgramOutputWrote, ProgramUnplayed, ProgramOutputWrotePart}
use Rattle.command_line.specs.Exports.{PrintArguments}
use Rattle.command_line.specs.Commands as asked
use Rattle.command_inputs.specs.declared.status.Status.TheVariants as status

-- the plan, or the tables that it gives the switch for version 1
abbrev pub program_printed_text_by : Option ℕ → CommandPrintInputs → List ℕ
program_printed_text_by None printing = compile_text printing.policy printing.hosted printing.net
program_printed_text_by (Some s) printing = table_text s (tables_of printing.hosted 1 s) printing.net

abbrev pub program_printing_text : CommandPrintInputs → List ℕ
program_printing_text printing = program_printed_text_by printing.switch printing

-- there is a plan as the command names it, which is the known one if the task is known; the output
-- has this relation to its text
pub record ProgramPrinted (command : PrintArguments) (files : Option ShelfFiles)
    (IsWritten : List ℕ → Type 0) (journal : List Item) : Type 0 where
  pub printing : CommandPrintInputs
  pub accepted : ForSome (known_command_input_task files (Some (asked.Print command)))
      (λ read. read ≡ Ok (Print printing))
  pub planned : IsPrintInputOf command printing
  pub nothing_played : journal ≡ []
  pub written : IsWritten (program_printing_text printing)

-- the output that each status of a printing command ensures; the journal is empty, so never full
abbrev pub ProgramPrintOutcome : PrintArguments → Option ShelfFiles → Status → List Item
    → (before now : SinkState) → Type 0
ProgramPrintOutcome command files status.Ok journal before now =
    ProgramPrinted command files (λ text. ProgramOutputWrote text before now) journal
ProgramPrintOutcome command files status.WriteFault journal before now =
    ProgramPrinted command files (λ text. SinkGainedPart before.bytes text now.bytes) journal
ProgramPrintOutcome command files status.NoMemory journal before now =
    ProgramUnplayed journal before now
    ⊎ ProgramPrinted command files (λ text. SinkGainedPart before.bytes text now.bytes) journal
ProgramPrintOutcome command files (status.Full row) journal before now = ⊥
ProgramPrintOutcome command files (status.No line) journal before now = ⊥
ProgramPrintOutcome command files _ journal before now = ProgramUnplayed journal before now

-- the output after writing a text: it gained all of the text if the write succeeded, otherwise a
-- part of it, or it wasn't touched. No fault is counted unless it failed. Memory ran out only in
-- the output's own writes, if they allocate; or before them, if the text is made in memory
pub record IsAfterProgramText (text : List ℕ) (in_memory takes_memory : Bool) (before now : SinkState)
    (result : Result (⊤) SinkError) : Type 0 where
  pub whole : OnOk result (now.bytes ≡ sink_with_gained before.bytes text)
  pub part : IsErrOf result Failed → SinkGainedPart before.bytes text now.bytes
  pub some : OnErr result (ProgramOutputWrotePart text before now)
  pub untouched : text ≡ [] → now ≡ before
  pub calm : result ≢ Err Failed → now.faults ≡ before.faults
  pub failed : IsErrOf result Failed → SinkFaultsRose before.faults now.faults
  pub no_memory : IsErrOf result NoMemory
      → IsTrue takes_memory ⊎ (IsTrue in_memory × (now ≡ before))
  pub faults : before.faults ≤ now.faults

-- the status of a command whose whole output is this text, and the output after it was written
pub record IsAfterProgramOutput (text : List ℕ) (takes_memory : Bool) (before now : SinkState)
    (ended : Status) : Type 0 where
  pub written : Result (⊤) SinkError
  pub status : ended ≡ command_status_after written None
  pub after : IsSinkAfterWrite text takes_memory before now written
  pub untouched : text ≡ [] → now ≡ before
