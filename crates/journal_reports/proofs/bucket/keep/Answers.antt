use Rattle.std.proofs.Common.{[], ◌++◌, ◌∙◌, ◌∷◌, ap, arith, refl, set}
use Rattle.update_machine.specs.Exports.{Message}
use Rattle.journal_reports.specs.Exports.{report_bucket_of}
use Rattle.journal_reports.specs.declared.bucket.Bucket.{Bucket}
use Rattle.journal_reports.proofs.QuietMessageBuckets.{kept_more}
use Rattle.journal_reports.proofs.bucket.keep.Goals as goal

pub returns-clause-kept : goal.returns-clause-kept
returns-clause-kept c = λ count other. let buckets = c.args.buckets.now.items in
    let place = c.report_bucket_of-bucket.result in
    let old : Bucket = c.index_mut.result.now in
    let bucket : Bucket = record { messages = c.push.new.self } in
    kept_more buckets (set buckets place bucket) place old bucket c.args.message.now other
    (omega arith)
    (c.report_bucket_of-bucket.ensures ∙ ap (λ (message : Message). report_bucket_of message.body) c.get.ensures)
    c.index_mut.ensures.value refl
    (c.in_ok-push.ensures.items
    ∙ ap (λ (message : Message). old.messages.items ++ message ∷ []) c.in_ok-clone.ensures.cases)
    count
