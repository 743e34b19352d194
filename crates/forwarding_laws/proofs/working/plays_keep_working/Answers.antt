use Rattle.forwarding_laws.proofs.RecoverySecondRounds.{keep_working}
use Rattle.forwarding_laws.proofs.working.plays_keep_working.Goals as goal

pub returns : goal.returns
returns c = keep_working c.networks_recover.ensures c.recovery_leaves_nothing_old.ensures
    c.rollouts_drop_nothing.ensures c.connected_rollouts_leave_none_stuck.ensures
    c.drained_rollouts_account_or_cut_off.ensures c.drained_rollouts_account_for_all.ensures
