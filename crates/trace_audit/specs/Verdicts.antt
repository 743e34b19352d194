-- The verdict on a trace as a whole.
use Rattle.std.specs.Prelude.{◌-◌, ◌≡◌, ◌≤◌, List, length, min, take, ℕ}
use Rattle.update_machine.specs.Exports.{PolicyFile}
use Rattle.trace_audit.specs.Reading.{AreGoodAuditLines, TraceLine}
use Rattle.trace_audit.specs.declared.trace.Verdict.{Verdict}
use Rattle.trace_audit.specs.declared.trace.Verdict.TheVariants.{Yes, No}

-- the line of this number, from 1, is the first bad one: the lines before it are good, and the
-- lines up to it aren't
pub record IsFirstBadAuditLine (files : List PolicyFile) (lines : List TraceLine) (number : ℕ) : Type 0 where
  pub some : 1 ≤ number
  pub there : number ≤ length lines
  pub before : AreGoodAuditLines files (take (number - 1) lines)
  pub bad : AreGoodAuditLines files (take number lines) → ⊥

-- yes if all lines are good, otherwise the first bad line's number, at most 4,294,967,295
abbrev pub IsTraceAuditVerdict : List PolicyFile → List TraceLine → Verdict → Type 0
IsTraceAuditVerdict files lines Yes = AreGoodAuditLines files lines
IsTraceAuditVerdict files lines (No line) =
    (number : ℕ) × IsFirstBadAuditLine files lines number × (line ≡ min number 4294967295)
