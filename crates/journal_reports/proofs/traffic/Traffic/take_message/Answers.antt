use Rattle.journal_reports.proofs.QuietReadItems.{passed_over}
use Rattle.journal_reports.proofs.traffic.Traffic.take_message.Goals as goal

pub returns-then-report_buckets_keep-clause-kept : goal.returns-then-report_buckets_keep-clause-kept
returns-then-report_buckets_keep-clause-kept c = λ count other. let row = c.args.self.now in
    passed_over row c.args.is_delivered c.args.message.now other
    (λ matter. rw c.get-2.ensures at
    (rw c.deref.ensures.value at (c.report_buckets_keep.ensures.0 c.if-report_buckets_keep.true)))
