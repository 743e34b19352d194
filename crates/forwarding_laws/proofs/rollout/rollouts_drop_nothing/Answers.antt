use Rattle.forwarding_laws.proofs.RolloutDropsNothing.{rollouts}
use Rattle.forwarding_laws.proofs.rollout.rollouts_drop_nothing.Goals as goal

pub returns : goal.returns
returns c = rollouts c.ends_have_causes.ensures
