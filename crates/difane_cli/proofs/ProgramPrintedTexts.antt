-- What the status says of a plan or of tables that were written.
use Rattle.std.proofs.Common.{[], ◌≡◌, Bool, Err, None, Ok, Option, Result, Some, inr, refl}
use Rattle.base.proofs.Exports.{ForSome, ⊤}
use Rattle.shelf.specs.Exports.{ShelfFiles, IsSinkAfterWrite, SinkState}
use Rattle.shelf.specs.declared.output.SinkError.{SinkError}
use Rattle.shelf.specs.declared.output.SinkError.TheVariants as sink
use Rattle.command_line.specs.Exports.{PrintArguments}
use Rattle.command_line.specs.Commands as asked
use Rattle.command_inputs.specs.Exports.{IsPrintInputOf, Print, known_command_input_task, command_status_after, CommandPrintInputs}
use Rattle.command_inputs.specs.declared.status.Status.{Status}
use Rattle.difane_cli.specs.Exports.{IsAfterProgramOutput, ProgramPrintOutcome, program_printing_text}

pub printed : (command : PrintArguments) (files : Option ShelfFiles) (printing : CommandPrintInputs)
    (takes_memory : Bool) (before now : SinkState) (ended : Status) → IsPrintInputOf command printing
    → ForSome (known_command_input_task files (Some (asked.Print command))) (λ read. read ≡ Ok (Print printing))
    → IsAfterProgramOutput (program_printing_text printing) takes_memory before now ended
    → ProgramPrintOutcome command files ended [] before now
printed command files printing takes_memory before now ended own read wrote =
    rw wrote.status (by_result wrote.written wrote.after)
  where
    by_result : (result : Result (⊤) SinkError)
        → IsSinkAfterWrite (program_printing_text printing) takes_memory before now result
        → ProgramPrintOutcome command files (command_status_after result None) [] before now
    by_result (Ok done) after = record {
      printing = printing;
      accepted = read;
      planned = own;
      nothing_played = refl;
      written = record { whole = after.whole; untouched = wrote.untouched };
    }
    by_result (Err sink.Failed) after = record {
      printing = printing;
      accepted = read;
      planned = own;
      nothing_played = refl;
      written = after.part;
    }
    by_result (Err sink.NoMemory) after = inr (record {
      printing = printing;
      accepted = read;
      planned = own;
      nothing_played = refl;
      written = after.part;
    })
