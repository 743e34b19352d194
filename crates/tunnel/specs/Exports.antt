-- The definitions of this crate that others use, passed on from the files that define them.
pub use Rattle.tunnel.specs.Moves.{advanced_tunnel, here, tunnel_marked_down, next, tunnel_on_route, tunnel_route_from_here, tunnel_begun}
pub use Rattle.tunnel.specs.Tunnel.{IsTunnelPlaceOnRoute, TunnelValue}
