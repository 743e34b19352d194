use Rattle.std.proofs.Common.{◌≡◌, take, ℕ}
use Rattle.journal_reports.specs.Exports.{report_switch_status_in}
use Rattle.journal_reports.proofs.status.status_items.Given as goal

abbrev pub invariant-loop-item : goal.invariant-loop-item
invariant-loop-item l = (s : ℕ) → report_switch_status_in l.told.items s ≡ report_switch_status_in (take l.item-index l.items) s
