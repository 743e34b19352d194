-- What the status of work that was begun says, and what became of the memory.
use Rattle.base.proofs.Exports.{⊤}
use Rattle.std.proofs.Common.{◌∙◌, ◌≡◌, ◌⊎◌, Bool, Err, IsErrOf, IsTrue, List, None, Ok, OnErr, Option, Result, Some, inl, inr, refl, subst, ℕ}
use Rattle.update_machine.specs.Exports.{Item}
use Rattle.shelf.specs.Exports.{SinkState}
use Rattle.shelf.specs.declared.output.SinkError.{SinkError}
use Rattle.shelf.specs.declared.output.SinkError.TheVariants as sink
use Rattle.command_inputs.specs.Exports.{Inputs, AreCommandPlayInputs, command_status_after}
use Rattle.difane_cli.specs.Exports.{ProgramStatusEndsWork, IsAfterProgramOutput, IsProgramStatusAfterWork, ProgramMayWantMemory, ProgramMemoryRanOut, program_asks_quiet, is_program_verdict_asked, is_program_output_made}
use Rattle.command_line.specs.declared.report.Report.{Report}
use Rattle.command_line.specs.declared.report.Report.TheVariants as told
use Rattle.command_inputs.specs.declared.status.Status.{Status}
use Rattle.command_inputs.specs.declared.status.Status.TheVariants as status
use Rattle.command_line.specs.Exports.{Command}
use Rattle.command_line.specs.Commands as asked

pub after_work : (written : Result (⊤) SinkError) (full : Option ℕ)
    → IsProgramStatusAfterWork (command_status_after written full)
after_work (Ok done) None = tt
after_work (Ok done) (Some row) = tt
after_work (Err sink.Failed) full = tt
after_work (Err sink.NoMemory) full = tt

-- a write fault comes of a failed write alone
pub by_failed : (written : Result (⊤) SinkError) (full : Option ℕ)
    → command_status_after written full ≡ status.WriteFault → IsErrOf written sink.Failed
by_failed (Ok done) None is = absurd (cc is)
by_failed (Ok done) (Some row) is = absurd (cc is)
by_failed (Err sink.Failed) full is = refl
by_failed (Err sink.NoMemory) full is = absurd (cc is)

-- and out of memory, of a write that ran out of it
pub by_memory : (written : Result (⊤) SinkError) (full : Option ℕ)
    → command_status_after written full ≡ status.NoMemory → IsErrOf written sink.NoMemory
by_memory (Ok done) None is = absurd (cc is)
by_memory (Ok done) (Some row) is = absurd (cc is)
by_memory (Err sink.Failed) full is = absurd (cc is)
by_memory (Err sink.NoMemory) full is = refl

-- and a failed write comes to a write fault
pub of_failed : (written : Result (⊤) SinkError) (full : Option ℕ)
    → IsErrOf written sink.Failed → command_status_after written full ≡ status.WriteFault
of_failed (Ok done) full is = absurd (cc is)
of_failed (Err sink.Failed) full is = refl
of_failed (Err sink.NoMemory) full is = absurd (cc is)

-- ---- after a command's whole output

pub output_ends : {text : List ℕ} {takes_memory : Bool} {before now : SinkState} {ended : Status}
    → IsAfterProgramOutput text takes_memory before now ended → ProgramStatusEndsWork ended before now
output_ends wrote = record {
  worked = rw wrote.status (after_work wrote.written None);
  failed = λ is. wrote.after.failed (by_failed wrote.written None (rw wrote.status at is));
  calm = λ not. wrote.after.calm (λ is. not (wrote.status ∙ of_failed wrote.written None is));
  faults = wrote.after.faults;
}

-- memory ran out only in the output's own writes
pub output_memory : {text : List ℕ} {takes_memory : Bool} {before now : SinkState} {ended : Status}
    → IsAfterProgramOutput text takes_memory before now ended → ended ≡ status.NoMemory → IsTrue takes_memory
output_memory wrote is = wrote.after.no_memory (by_memory wrote.written None (rw wrote.status at is))

-- no other statuses
pub output_statuses : {text : List ℕ} {takes_memory : Bool} {before now : SinkState} {ended : Status}
    → IsAfterProgramOutput text takes_memory before now ended
    → (ended ≡ status.Ok) ⊎ (ended ≡ status.WriteFault) ⊎ (ended ≡ status.NoMemory)
output_statuses {text} {takes_memory} {before} {now} {ended} wrote = rw wrote.status (by_result wrote.written)
  where
    by_result : (result : Result (⊤) SinkError) → (command_status_after result None ≡ status.Ok)
        ⊎ (command_status_after result None ≡ status.WriteFault)
        ⊎ (command_status_after result None ≡ status.NoMemory)
    by_result (Ok done) = inl refl
    by_result (Err sink.Failed) = inr (inl refl)
    by_result (Err sink.NoMemory) = inr (inr refl)

-- ---- where memory ran out

wants_to_judge : (command : Command) (inputs : Inputs) (full : Option ℕ) → AreCommandPlayInputs command inputs
    → IsTrue (is_program_verdict_asked (program_asks_quiet inputs.report) full) → ProgramMayWantMemory (Some command)
wants_to_judge (asked.Replay named) inputs None own is =
    inl (subst (λ (report : Report). IsTrue (program_asks_quiet report)) own.report is)
wants_to_judge (asked.Replay named) inputs (Some row) own is = absurd (cc is)
wants_to_judge (asked.Print named) inputs full own is = absurd own
wants_to_judge (asked.Load n) inputs full own is = tt
wants_to_judge (asked.Audit named) inputs full own is = absurd own

-- what is made in memory is that of a play that didn't stop full
made_whole : (report : Report) (full : Option ℕ) → IsTrue (is_program_output_made report full)
    → IsTrue (is_program_output_made report None)
made_whole report None is = is
made_whole (told.Lines quiet) (Some row) is = is
made_whole told.Flows (Some row) is = absurd (cc is)
made_whole told.Placement (Some row) is = absurd (cc is)
made_whole told.Summary (Some row) is = absurd (cc is)

wants_to_make : (command : Command) (inputs : Inputs) (full : Option ℕ) → AreCommandPlayInputs command inputs
    → IsTrue (is_program_output_made inputs.report full) → ProgramMayWantMemory (Some command)
wants_to_make (asked.Replay named) inputs full own is = inr (made_whole named.report full
    (subst (λ (report : Report). IsTrue (is_program_output_made report full)) own.report is))
wants_to_make (asked.Print named) inputs full own is = absurd own
wants_to_make (asked.Load n) inputs full own is = tt
wants_to_make (asked.Audit named) inputs full own is = absurd own

-- what holds at an error
pub on_err : {T E : Type 0} (r : Result T E) (P : Type 0) → OnErr r P → ((x : T) → r ≡ Ok x → ⊥) → P
on_err (Ok x) P holds none = absurd (none x refl)
on_err (Err e) P holds none = holds

-- it ran out before the answer
pub out_of_judging : (command : Command) (inputs : Inputs) (full : Option ℕ) (takes_memory : Bool)
    (journal : List Item) (now : SinkState) → AreCommandPlayInputs command inputs
    → IsTrue (is_program_verdict_asked (program_asks_quiet inputs.report) full)
    → ProgramMemoryRanOut (Some command) takes_memory journal now now
out_of_judging command inputs full takes_memory journal now own is =
    inr (refl, inr (wants_to_judge command inputs full own is))

-- it ran out in making or in writing the text
pub out_of_writing : (command : Command) (inputs : Inputs) (full : Option ℕ) (takes_memory : Bool)
    (journal : List Item) (before now : SinkState) → AreCommandPlayInputs command inputs
    → IsTrue takes_memory ⊎ (IsTrue (is_program_output_made inputs.report full) × (now ≡ before))
    → ProgramMemoryRanOut (Some command) takes_memory journal before now
out_of_writing command inputs full takes_memory journal before now own (inl takes) = inl takes
out_of_writing command inputs full takes_memory journal before now own (inr (made, same)) =
    inr (same, inr (wants_to_make command inputs full own made))
