use Rattle.base.proofs.Exports.{taken_more}
use Rattle.policy_rules.specs.Exports.{words_of_policy_row}
use Rattle.controller.proofs.ControllerTouchedWords.{lists_then}
use Rattle.controller.proofs.touching.controller_touch_added_rows.Goals as goal

pub loop-row-preserved : goal.loop-row-preserved
loop-row-preserved c = rw (taken_more words_of_policy_row c.args.rows.now c.loop-row.row-index
    c.row-item.result c.loop-row-test.true c.row-item.is) at
    (lists_then _ _ _ _ _ c.loop-row.invariant c.in_ok-controller_touch_row.ensures)
