use Rattle.std.proofs.Common.{◌∙◌, ap, arith, ltb-true, subst, sym}
use Rattle.journal_reports.specs.Exports.{ReportBucketHasSaying}
use Rattle.journal_reports.specs.declared.bucket.Bucket.{Bucket}
use Rattle.journal_reports.proofs.QuietMessageBuckets.{kept_in_bucket, kept_nowhere}
use Rattle.journal_reports.proofs.bucket.report_buckets_keep.Goals as goal

pub returns-then-bucket-buckets : goal.returns-then-bucket-buckets
returns-then-bucket-buckets c =
    let message = c.args.message.now in
    let same = c.deref.ensures.value
    ∙ ap (λ (bucket : Bucket). bucket.messages.items) (sym c.index-buckets-bucket.is) in
    let tells = kept_in_bucket c.args.buckets.now c.report_bucket_of-bucket.result
    c.index-buckets-bucket.result message c.report_bucket_of-bucket.ensures (omega arith)
    c.index-buckets-bucket.is in (
      λ said. tells.0 (subst (λ ms. ReportBucketHasSaying ms message) same (c.is_said_in_bucket.ensures.0 said)),
      λ kept. c.is_said_in_bucket.ensures.1 (subst (λ ms. ReportBucketHasSaying ms message) (sym same) (tells.1 kept)),
    )

pub returns-else-bucket-buckets : goal.returns-else-bucket-buckets
returns-else-bucket-buckets c = (
  λ said. absurd (omega (arith, ltb-true)),
  λ kept. absurd (kept_nowhere c.args.buckets.now c.report_bucket_of-bucket.result c.args.message.now
      c.report_bucket_of-bucket.ensures (omega arith) kept),
)
