use Rattle.forwarding_laws.proofs.RolloutDropsNothing.{none_is_stuck}
use Rattle.forwarding_laws.proofs.rollout.connected_rollouts_leave_none_stuck.Goals as goal

pub returns : goal.returns
returns c = none_is_stuck c.rollouts_drop_nothing.ensures
