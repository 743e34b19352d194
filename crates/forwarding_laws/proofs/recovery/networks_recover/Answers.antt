use Rattle.forwarding_laws.proofs.RecoveredNetworks.{recovers}
use Rattle.forwarding_laws.proofs.recovery.networks_recover.Goals as goal

pub returns : goal.returns
returns c = recovers c.agreeing_networks_have_converged.ensures c.stuck_apart_when_neighbours_agree.ensures.agreed
    c.converged_networks_forward.ensures
