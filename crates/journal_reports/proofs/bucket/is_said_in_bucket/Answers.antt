use Rattle.std.proofs.Common.{◌∙◌, arith, refl, subst, sym, take_all, true≢false}
use Rattle.journal_reports.specs.Exports.{ReportBucketHasSaying, ReportedMessageSaysAsMuch}
use Rattle.journal_reports.proofs.QuietMessageBuckets.{none_more, some_at}
use Rattle.journal_reports.proofs.bucket.is_said_in_bucket.Goals as goal

pub loop-kept-preserved : goal.loop-kept-preserved
loop-kept-preserved c = none_more c.args.messages.now c.loop-kept.kept-index c.kept-item.result
    c.args.message.now c.loop-kept-test.true c.kept-item.is c.loop-kept.invariant (λ says.
    true≢false (sym (c.says_as_much_in_report.ensures.1 (rw c.get.ensures says)) ∙ c.if-says_as_much_in_report.false))

pub returns-then-says_as_much_in_report : goal.returns-then-says_as_much_in_report
returns-then-says_as_much_in_report c = (
  λ yes. some_at c.args.messages.now c.loop-kept.kept-index c.kept-item.result c.args.message.now
      c.loop-kept-test.true c.kept-item.is (subst (λ m. ReportedMessageSaysAsMuch m c.args.message.now)
      c.get.ensures (c.says_as_much_in_report.ensures.0 c.if-says_as_much_in_report.true)),
  λ has. refl,
)

pub returns : goal.returns
returns c = (
  λ yes. absurd (true≢false (sym yes)),
  λ has. absurd (c.loop-kept.invariant (subst (λ ms. ReportBucketHasSaying ms c.args.message.now)
      (sym (take_all c.loop-kept.kept-index c.args.messages.now (omega arith))) has)),
)
