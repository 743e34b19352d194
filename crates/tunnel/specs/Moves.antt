-- What becomes of a packet on its way: its place, and the links that it finds down.
use Rattle.std.specs.Prelude.{◌+◌, List, None, Option, Some, slice_get, slice_index, ℕ}
use Rattle.five_tuple.specs.declared.header.Header.{Header}
use Rattle.policy_rules.specs.declared.packet.Leg.{Leg}
use Rattle.failover.specs.declared.advert.Advert.{Advert}
use Rattle.failover.specs.Exports.{route_of, with_failover_link}
use Rattle.tunnel.specs.Tunnel.{TunnelValue}

-- at the beginning of its route
abbrev pub tunnel_begun : ℕ → Header → ℕ → Leg → List ℕ → List ℕ → List ℕ → TunnelValue
tunnel_begun packet header ingress leg targets route down = record {
  packet = packet;
  header = header;
  ingress = ingress;
  leg = leg;
  targets = targets;
  route = route;
  place = 0;
  down = down;
}

-- the switch where it is
abbrev pub here : TunnelValue → ℕ
here t = slice_index t.route t.place

-- the switch after that one on its route
abbrev pub next : TunnelValue → Option ℕ
next t = slice_get t.route (t.place + 1)

-- one place on
abbrev pub advanced_tunnel : TunnelValue → TunnelValue
advanced_tunnel t = record t { place = t.place + 1 }

-- the link between this switch and another was found down
abbrev pub tunnel_marked_down : TunnelValue → ℕ → TunnelValue
tunnel_marked_down t other = record t { down = with_failover_link t.down (here t) other }

-- its route from here by the links that are known here, except those found down
abbrev pub tunnel_route_from_here : TunnelValue → List (Option Advert) → ℕ → Option (List ℕ)
tunnel_route_from_here t adverts near = route_of adverts (here t) t.targets near t.down

-- it is at the beginning of this route
abbrev pub tunnel_on_route : TunnelValue → List ℕ → TunnelValue
tunnel_on_route t route = record t { route = route; place = 0 }

-- it takes the new route if there is one, and stays on its old route otherwise
abbrev pub tunnel_put_on_route : TunnelValue → Option (List ℕ) → TunnelValue
tunnel_put_on_route t None = t
tunnel_put_on_route t (Some route) = tunnel_on_route t route
