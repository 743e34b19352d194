use Rattle.std.proofs.Common.{[], ◌<◌, ◌≡◌, get_or, length, ℕ}
use Rattle.journal_reports.specs.declared.bucket.Bucket.{Bucket}
use Rattle.journal_reports.proofs.bucket.empty_report_buckets.Given as goal

-- no message waits in the buckets so far
abbrev pub invariant-loop-bucket : goal.invariant-loop-bucket
invariant-loop-bucket l = record {
  count : length l.buckets.items ≡ l.bucket;
  each : (c : ℕ) (d : Bucket) → c < l.bucket → (get_or l.buckets.items c d).messages.items ≡ [];
}
