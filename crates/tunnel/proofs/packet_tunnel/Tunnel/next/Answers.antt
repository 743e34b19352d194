use Rattle.tunnel.proofs.TunnelOnwardSwitch.{next_is_some, next_is_other}
use Rattle.tunnel.proofs.packet_tunnel.Tunnel.next.Goals as goal

pub returns-clause-more : goal.returns-clause-more
returns-clause-more c = rw (← c.self.view_is) (next_is_some _ _ _ c.tunnel_route_switch_after.ensures)

pub returns-clause-other : goal.returns-clause-other
returns-clause-other c = rw (← c.self.view_is)
    (next_is_other _ _ _ c.self.invariant c.tunnel_route_switch_after.ensures)
