use Rattle.std.proofs.Common.{◌≡◌, take}
use Rattle.journal_reports.specs.Exports.{summary_item_counts}
use Rattle.journal_reports.proofs.summary.count.Given as goal

abbrev pub invariant-loop-item : goal.invariant-loop-item
invariant-loop-item l = l.counts ≡ summary_item_counts (take l.item-index l.items)
