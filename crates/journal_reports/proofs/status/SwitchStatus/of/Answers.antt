use Rattle.std.proofs.Common.{sym}
use Rattle.journal_reports.proofs.QuietSwitchStatus.{status_at_first, status_of_item}
use Rattle.journal_reports.proofs.status.SwitchStatus.of.Goals as goal

pub loop-item-init : goal.loop-item-init
loop-item-init c = sym (status_at_first c.args.switch)

pub loop-item-preserved : goal.loop-item-preserved
loop-item-preserved c = status_of_item c.args.items.now c.loop-item.item-index c.args.switch
    c.item-item.result c.loop-item.status c.go_on.new.self c.loop-item-test.true c.item-item.is
    c.loop-item.invariant c.go_on.ensures
