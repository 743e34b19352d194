use Rattle.forwarding_laws.proofs.ForwardedPacket.{comes_to_rest}
use Rattle.forwarding_laws.proofs.laws.quiet_forwarding_comes_to_rest.Goals as goal

pub returns : goal.returns
returns c = comes_to_rest c.quiet_networks_have_converged.ensures
    c.stuck_apart_when_neighbours_agree.ensures.quiet c.quiet_networks_are_updated.ensures
    c.quiet_networks_forward.ensures
