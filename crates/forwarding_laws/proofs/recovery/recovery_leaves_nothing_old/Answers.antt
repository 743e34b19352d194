use Rattle.forwarding_laws.proofs.RecoverySecondRounds.{nothing_old}
use Rattle.forwarding_laws.proofs.recovery.recovery_leaves_nothing_old.Goals as goal

pub returns : goal.returns
returns c = nothing_old c.agreeing_networks_have_converged.ensures
    c.stuck_apart_when_neighbours_agree.ensures.agreed c.converged_networks_forward.ensures
    c.cache_rules_are_right.ensures
