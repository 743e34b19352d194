-- What a trace whose lines are all good leaves of the output.
use Rattle.base.proofs.Exports.{ForSome, count_by-le-length, length-slice_split, ⊤}
use Rattle.std.proofs.Common.{[], ◌+◌, ◌==◌, ◌∷◌, ◌≡◌, ◌≤◌, Bool, Err, List, None, Ok, Option, Result, Some, arith, inr, length, refl, subst, sym, ℕ}
use Rattle.five_tuple.specs.Exports.{tuple_text_parts_round_byte}
use Rattle.update_machine.specs.Exports.{PolicyFile}
use Rattle.shelf.specs.Exports.{ShelfFiles, SinkGainedPart, IsSinkAfterWrite, SinkState}
use Rattle.shelf.specs.declared.output.SinkError.{SinkError}
use Rattle.shelf.specs.declared.output.SinkError.TheVariants as sink
use Rattle.trace_audit.specs.Exports.{AreTraceEndsJustified, AreAuditedTraceRun, IsTraceAuditVerdict, IsFirstBadAuditLine, audit_lines_of, trace_lines_of_parts, open_trace_line}
use Rattle.trace_audit.specs.declared.trace.Verdict.{Verdict}
use Rattle.trace_audit.specs.declared.trace.Verdict.TheVariants.{Yes, No}
use Rattle.command_inputs.specs.declared.status.Status.{Status}
use Rattle.command_line.specs.Exports.{AuditArguments}
use Rattle.command_line.specs.Commands as asked
use Rattle.command_inputs.specs.Exports.{Audit, CommandAuditInputs, IsAuditInputOf, known_command_input_task, command_input_most_trace_bytes, command_status_after}
use Rattle.difane_cli.specs.Exports.{IsAfterProgramOutput, ProgramAuditOutcome, ProgramAuditEnded, IsProgramAuditJudged, ProgramOutputWrote, program_audit_yes_line}

-- ---- how many lines there are

few_open : (rest : List ℕ) → length (open_trace_line rest) ≤ 1
few_open [] = omega arith
few_open (byte ∷ bytes) = omega arith

few_parts : (parts : List (List ℕ)) → length (trace_lines_of_parts parts) ≤ length parts
few_parts [] = omega arith
few_parts (rest ∷ []) = omega (arith, few_open rest)
few_parts (text ∷ next ∷ parts) = omega (arith, few_parts (next ∷ parts))

-- at most one behind the last line feed
few_lines : (trace : List ℕ) → length (audit_lines_of trace) ≤ length trace + 1
unfolding audit_lines_of
few_lines trace = let feeds = length-slice_split (λ (b : ℕ). b == 10) trace in
    omega (
      arith,
      few_parts (tuple_text_parts_round_byte 10 trace),
      feeds,
      count_by-le-length (λ (b : ℕ). b == 10) trace,
    )

-- so in a trace that isn't too long the verdict has the line's own number
own_number : (files : List PolicyFile) (trace : List ℕ) (line : ℕ) → length trace ≤ command_input_most_trace_bytes
    → IsTraceAuditVerdict files (audit_lines_of trace) (No line) → IsFirstBadAuditLine files (audit_lines_of trace) line
own_number files trace line short is =
    let first = is.1 in
    let same : is.0 ≡ line = omega (arith, is.2, first.there, few_lines trace, short) in
    subst (IsFirstBadAuditLine files (audit_lines_of trace)) same first

-- ---- verdicts

-- a verdict on what was read is one on what the inputs are
pub verdict_on : (trace owned : List ℕ) (files own : List PolicyFile) (found verdict : Verdict)
    → length owned ≤ command_input_most_trace_bytes → IsTraceAuditVerdict files (audit_lines_of trace) found
    → (found ≡ Yes → AreAuditedTraceRun files (audit_lines_of trace))
    → (found ≡ Yes → AreTraceEndsJustified files (audit_lines_of trace))
    → trace ≡ owned → files ≡ own → found ≡ verdict → IsProgramAuditJudged own (audit_lines_of owned) verdict
verdict_on trace owned files own found verdict short is run justified same all told =
    let few : length trace ≤ command_input_most_trace_bytes =
    subst (λ (bytes : List ℕ). length bytes ≤ command_input_most_trace_bytes) (sym same) short in
    subst (λ (given : Verdict). IsProgramAuditJudged own (audit_lines_of owned) given) told
    (subst (λ (bytes : List ℕ). IsProgramAuditJudged own (audit_lines_of bytes) found) same
    (subst (λ (given : List PolicyFile). IsProgramAuditJudged given (audit_lines_of trace) found) all (record {
      good = λ yes. subst (IsTraceAuditVerdict files (audit_lines_of trace)) yes is;
      bad = λ line no. own_number files trace line few
          (subst (IsTraceAuditVerdict files (audit_lines_of trace)) no is);
      run = run;
      justified = justified;
    })))

module _ (command : AuditArguments) (files : Option ShelfFiles) (auditing : CommandAuditInputs)
    (own : IsAuditInputOf command auditing)
    (accepted : ForSome (known_command_input_task files (Some (asked.Audit command)))
    (λ read. read ≡ Ok (Audit auditing))) where
  pub audited : (verdict : Verdict) (IsWritten : List ℕ → Type 0)
      → IsProgramAuditJudged auditing.files (audit_lines_of auditing.trace) verdict → IsWritten program_audit_yes_line
      → ProgramAuditEnded command files verdict IsWritten []
  audited verdict IsWritten judged written = record {
    auditing = auditing;
    accepted = accepted;
    asked = own;
    judged = judged;
    nothing_played = refl;
    written = written;
  }

  pub yes_told : (takes_memory : Bool) (before now : SinkState) (ended : Status)
      → IsProgramAuditJudged auditing.files (audit_lines_of auditing.trace) Yes
      → IsAfterProgramOutput program_audit_yes_line takes_memory before now ended
      → ProgramAuditOutcome command files ended [] before now
  yes_told takes_memory before now ended judged wrote =
      rw wrote.status (by_result wrote.written wrote.after)
    where
      by_result : (result : Result (⊤) SinkError) → IsSinkAfterWrite program_audit_yes_line takes_memory before now result
          → ProgramAuditOutcome command files (command_status_after result None) [] before now
      by_result (Ok done) after = audited Yes (λ text. ProgramOutputWrote text before now) judged
          (record { whole = after.whole; untouched = λ none. absurd (cc none) })
      by_result (Err sink.Failed) after =
          audited Yes (λ text. SinkGainedPart before.bytes text now.bytes) judged after.part
      by_result (Err sink.NoMemory) after =
          inr (audited Yes (λ text. SinkGainedPart before.bytes text now.bytes) judged after.part)
