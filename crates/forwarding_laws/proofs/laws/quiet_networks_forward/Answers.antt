use Rattle.forwarding_laws.proofs.ForwardedPacket.{quiet_forwards}
use Rattle.forwarding_laws.proofs.laws.quiet_networks_forward.Goals as goal

pub returns : goal.returns
returns c = quiet_forwards c.quiet_networks_have_converged.ensures
    c.quiet_networks_are_updated.ensures c.converged_networks_forward.ensures
