use Rattle.std.proofs.Common.{[], ◌++◌, ◌∙◌, ◌∷◌, ap, sym, take}
use Rattle.std.proofs.lemmas.List.{take_more}
use Rattle.journal_reports.specs.Exports.{summary_counts_after_item, summary_item_counts}
use Rattle.journal_reports.proofs.JournalSummaryCounts.{counts_more, counts_start}
use Rattle.journal_reports.proofs.summary.count.Goals as goal

pub loop-item-init : goal.loop-item-init
loop-item-init c = sym counts_start

pub loop-item-preserved : goal.loop-item-preserved
loop-item-preserved c =
    let items = c.args.items.now in
    let i = c.loop-item.item-index in
    let item = c.item-item.result in
    c.note.ensures ∙ ap (λ counts. summary_counts_after_item counts item) c.loop-item.invariant
    ∙ sym (counts_more (take i items) item)
    ∙ ap summary_item_counts (ap (λ x. take i items ++ x ∷ []) c.item-item.is
    ∙ sym (take_more items i item c.loop-item-test.true))
