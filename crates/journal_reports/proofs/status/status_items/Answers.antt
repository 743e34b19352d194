use Rattle.std.proofs.Common.{List, ap}
use Rattle.update_machine.specs.Exports.{Item}
use Rattle.journal_reports.specs.Exports.{report_switch_status_in}
use Rattle.journal_reports.proofs.QuietSwitchStatus.{told_of_item}
use Rattle.journal_reports.proofs.status.status_items.Goals as goal

pub loop-item-init : goal.loop-item-init
loop-item-init c = λ s. ap (λ (js : List Item). report_switch_status_in js s) c.new-told.ensures.items

pub loop-item-preserved : goal.loop-item-preserved
loop-item-preserved c = λ s. told_of_item c.args.items.now c.loop-item.item-index s
    c.item-item.result c.loop-item.told.items c.push_report_status_item.new.told.items
    c.loop-item-test.true c.item-item.is (c.loop-item.invariant s) c.in_ok-push_report_status_item.ensures
