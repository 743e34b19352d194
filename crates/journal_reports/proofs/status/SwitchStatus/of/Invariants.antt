use Rattle.std.proofs.Common.{◌≡◌, take}
use Rattle.journal_reports.specs.Exports.{report_switch_status_in}
use Rattle.journal_reports.proofs.status.SwitchStatus.of.Given as goal

abbrev pub invariant-loop-item : goal.invariant-loop-item
invariant-loop-item l = l.status ≡ report_switch_status_in (take l.item-index l.items) l.switch
