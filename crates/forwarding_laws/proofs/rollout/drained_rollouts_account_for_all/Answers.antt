use Rattle.forwarding_laws.proofs.RolloutDrains.{all_accounted}
use Rattle.forwarding_laws.proofs.rollout.drained_rollouts_account_for_all.Goals as goal

pub returns : goal.returns
returns c = all_accounted c.connected_rollouts_leave_none_stuck.ensures
    c.drained_rollouts_account_or_cut_off.ensures
