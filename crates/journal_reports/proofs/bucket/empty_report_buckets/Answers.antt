use Rattle.std.proofs.Common.{[], ◌++◌, ◌∙◌, ◌∷◌, ◌≡◌, List, ap, get_or, length-append}
use Rattle.journal_reports.specs.declared.bucket.Bucket.{Bucket}
use Rattle.journal_reports.proofs.QuietMessageBuckets.{empty_more}
use Rattle.journal_reports.proofs.bucket.empty_report_buckets.Goals as goal

pub loop-bucket-preserved : goal.loop-bucket-preserved
loop-bucket-preserved c =
    let buckets = c.loop-bucket.buckets.items in
    let next : Bucket = record { messages = c.new.result } in
    let is : c.push.new.self.items ≡ buckets ++ next ∷ [] = c.in_ok-push.ensures.items in record {
      count = cc (is, length-append buckets (next ∷ []), c.loop-bucket.invariant.count);
      each = λ i d below. ap (λ (buckets : List Bucket). (get_or buckets i d).messages.items) is
          ∙ empty_more buckets next c.loop-bucket.bucket c.loop-bucket.invariant.count
          c.loop-bucket.invariant.each c.new.ensures.items i d below;
    }
