use Rattle.std.proofs.Common.{[], ◌++◌, ◌∙◌, ◌∷◌, ap, sym, take}
use Rattle.base.proofs.Exports.{take_more}
use Rattle.update_machine.specs.Exports.{journal_current_mark}
use Rattle.rebalance.proofs.RebalanceWeights.{current_goes_on, current_start}
use Rattle.rebalance.proofs.weighing.rebalance_version_at_end.Goals as goal

pub loop-item-init : goal.loop-item-init
loop-item-init c = sym current_start

pub loop-item-preserved : goal.loop-item-preserved
loop-item-preserved c =
    let items = c.args.items.now in
    let i = c.loop-item.item-index in
    let item = c.item-item.result in
    c.weighed_version_behind-current.ensures
    ∙ current_goes_on (take i items) item c.loop-item.current c.loop-item.invariant
    ∙ ap journal_current_mark (ap (λ x. take i items ++ x ∷ []) c.item-item.is
    ∙ sym (take_more items i item c.loop-item-test.true))
