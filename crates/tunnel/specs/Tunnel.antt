-- A packet on its way, as contracts see it.
use Rattle.std.specs.Prelude.{◌<◌, List, length, ℕ}
use Rattle.failover.specs.Exports.{IsRouteList}
use Rattle.tunnel.specs.declared.packet_tunnel.Tunnel.TheInside.{Inside}

-- the packet, its leg and the targets of the leg, the route to one of them, the place on the route,
-- the links found down
abbrev pub TunnelValue : Type 0
TunnelValue = Inside

-- the place is on the route
pub record IsTunnelPlaceOnRoute (route : List ℕ) (place : ℕ) : Type 0 where
  pub within : place < length route
  pub list : IsRouteList route
