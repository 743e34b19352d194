use Rattle.std.proofs.Common.{◌≡◌, take}
use Rattle.rebalance.specs.Proposals.{rebalance_partition_targets}
use Rattle.rebalance.proofs.plan_proposal.rebalance_targets_of.Given as goal

abbrev pub invariant-loop-targets : goal.invariant-loop-targets
invariant-loop-targets l = l.all.items ≡ rebalance_partition_targets (take l.targets-index l.hosted)
