use Rattle.std.proofs.Common.{◌≡◌, take}
use Rattle.update_machine.specs.Exports.{journal_current_mark}
use Rattle.rebalance.proofs.weighing.rebalance_version_at_end.Given as goal

abbrev pub invariant-loop-item : goal.invariant-loop-item
invariant-loop-item l = l.current ≡ journal_current_mark (take l.item-index l.items)
