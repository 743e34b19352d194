use Rattle.forwarding_laws.proofs.ForwardedPacket.{converged_forward}
use Rattle.forwarding_laws.proofs.laws.converged_networks_forward.Goals as goal

pub returns : goal.returns
returns c = converged_forward
