use Rattle.std.proofs.Common.{◌<◌, ◌≡◌, get_or, length, sum_by, ℕ}
use Rattle.base.proofs.Exports.{range_with_len}
use Rattle.rebalance.proofs.RebalanceLoads.{carried}
use Rattle.rebalance.proofs.peaks.carry.Given as goal

abbrev pub invariant-loop-partition : goal.invariant-loop-partition
invariant-loop-partition l = (s : ℕ) → s < length l.carried
    → get_or l.carried s 0 ≡ sum_by (carried l.weights l.targets s) (range_with_len 0 l.partition)
