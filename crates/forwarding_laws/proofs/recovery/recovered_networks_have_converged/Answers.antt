use Rattle.forwarding_laws.proofs.RecoveredNetworks.{recovered_converged}
use Rattle.forwarding_laws.proofs.recovery.recovered_networks_have_converged.Goals as goal

pub returns : goal.returns
returns c = recovered_converged c.agreeing_networks_have_converged.ensures
    c.recovered_neighbours_agree.ensures
