-- The outcome of an audit, by its status; and that what a replay prints is a good trace.
use Rattle.std.specs.Prelude.{[], ◌≡◌, ◌⊎◌, List, Ok, Option, Some, codes, ℕ, ⊤}
use Rattle.base.specs.Exports.{ForSome}
use Rattle.update_machine.specs.Exports.{Item, PolicyFile}
use Rattle.shelf.specs.Exports.{ShelfFiles, SinkGainedPart, SinkState}
use Rattle.trace_audit.specs.Exports.{AreGoodAuditLines, AreTraceEndsJustified, AreAuditedTraceRun, IsFirstBadAuditLine, TraceLine, audit_lines_of}
use Rattle.trace_audit.specs.declared.trace.Verdict.{Verdict}
use Rattle.trace_audit.specs.declared.trace.Verdict.TheVariants.{Yes, No}
use Rattle.command_line.specs.Exports.{AuditArguments}
use Rattle.command_line.specs.Commands as asked
use Rattle.command_line.specs.declared.report.Report.{Report}
use Rattle.command_line.specs.declared.report.Report.TheVariants as report
use Rattle.command_inputs.specs.Exports.{Audit, CommandAuditInputs, Inputs, IsAuditInputOf, known_command_input_task}
use Rattle.difane_cli.specs.Writes.{ProgramUnplayed, ProgramOutputWrote}
use Rattle.command_inputs.specs.declared.status.Status.{Status}
use Rattle.command_inputs.specs.declared.status.Status.TheVariants as status

-- what is written for a trace whose lines are all good
abbrev pub program_audit_yes_line : List ℕ
program_audit_yes_line = codes "yes\n"

-- the verdict is Yes only if each line is good, and otherwise No with the number of the first that
-- isn't. If it is Yes, the moves that they state are a run of the machine. And each packet that
-- they print as dropped or as out by a port got one decision before: the first match of its header
-- under one version that was not retired when it entered
pub record IsProgramAuditJudged (files : List PolicyFile) (lines : List TraceLine) (verdict : Verdict) : Type 0 where
  pub good : verdict ≡ Yes → AreGoodAuditLines files lines
  pub bad : (number : ℕ) → verdict ≡ No number → IsFirstBadAuditLine files lines number
  pub run : verdict ≡ Yes → AreAuditedTraceRun files lines
  pub justified : verdict ≡ Yes → AreTraceEndsJustified files lines

-- there are a trace and files as the command names them, which are the known ones if these are
-- known; this is their verdict; and the output has this relation to the line `yes`
pub record ProgramAuditEnded (command : AuditArguments) (files : Option ShelfFiles) (verdict : Verdict)
    (IsWritten : List ℕ → Type 0) (journal : List Item) : Type 0 where
  pub auditing : CommandAuditInputs
  pub accepted : ForSome (known_command_input_task files (Some (asked.Audit command)))
      (λ read. read ≡ Ok (Audit auditing))
  pub asked : IsAuditInputOf command auditing
  pub judged : IsProgramAuditJudged auditing.files (audit_lines_of auditing.trace) verdict
  pub nothing_played : journal ≡ []
  pub written : IsWritten program_audit_yes_line

-- the output that each status of an audit ensures: `No` leaves it unchanged
abbrev pub ProgramAuditOutcome : AuditArguments → Option ShelfFiles → Status → List Item
    → (before now : SinkState) → Type 0
ProgramAuditOutcome command files status.Ok journal before now =
    ProgramAuditEnded command files Yes (λ text. ProgramOutputWrote text before now) journal
ProgramAuditOutcome command files (status.No line) journal before now =
    ProgramAuditEnded command files (No line) (λ text. now ≡ before) journal
ProgramAuditOutcome command files status.WriteFault journal before now =
    ProgramAuditEnded command files Yes (λ text. SinkGainedPart before.bytes text now.bytes) journal
ProgramAuditOutcome command files status.NoMemory journal before now =
    ProgramUnplayed journal before now
    ⊎ ProgramAuditEnded command files Yes (λ text. SinkGainedPart before.bytes text now.bytes) journal
ProgramAuditOutcome command files (status.Full row) journal before now = ⊥
ProgramAuditOutcome command files _ journal before now = ProgramUnplayed journal before now

-- ---- what a replay prints

abbrev pub ProgramReportTellsLines : Report → Type 0
ProgramReportTellsLines (report.Lines quiet) = ⊤
ProgramReportTellsLines _ = ⊥

-- if the lines of a journal are printed, the text is a trace each line of which is good with the
-- files of the play: so `audit` says yes, up to the longest trace that it accepts
abbrev pub IsProgramTraceGood : Inputs → List ℕ → Type 0
IsProgramTraceGood inputs text = ProgramReportTellsLines inputs.report → AreGoodAuditLines inputs.setting.files (audit_lines_of text)
