use Rattle.std.proofs.Common.{take}
use Rattle.journal_reports.specs.Exports.{ReportBucketHasSaying}
use Rattle.journal_reports.proofs.bucket.is_said_in_bucket.Given as goal

abbrev pub invariant-loop-kept : goal.invariant-loop-kept
invariant-loop-kept l = ReportBucketHasSaying (take l.kept-index l.messages) l.message → ⊥
