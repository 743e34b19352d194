-- What becomes of a packet that is on its way at a switch, as a function. The relation
-- `IsSwitchHop` says what it returns, and allows nothing else.
use Rattle.std.specs.Prelude.{if◌then◌else◌, ◌≡◌, List, None, Option, Some, slice_get, ℕ}
use Rattle.base.specs.Exports.{has}
use Rattle.tunnel.specs.Exports.{TunnelValue, advanced_tunnel, tunnel_marked_down, next, tunnel_on_route, tunnel_route_from_here}
use Rattle.switch_core.specs.declared.tunnel_calls.HopEnd.{HopEnd}
use Rattle.switch_core.specs.declared.tunnel_calls.HopEnd.TheVariants.{Arrive, Move, Stuck}
use Rattle.switch_core.specs.declared.packet.Onward.{Onward}
use Rattle.switch_core.specs.declared.packet.Onward.TheVariants.{AtEnd, Next, LinkDown}
use Rattle.switch_core.specs.Ends.{switch_stuck_cause}
use Rattle.switch_core.specs.State.{SwitchValue}

-- a packet at this place of its route is at the switch
abbrev pub SwitchStandsAtRoutePlace : SwitchValue → List ℕ → ℕ → Type 0
SwitchStandsAtRoutePlace s route place = slice_get route place ≡ Some s.number

-- where the hop ends, and the packet after it
pub record SwitchPacketMoved : Type 0 where
  pub end : HopEnd
  pub tunnel : TunnelValue

-- to the next switch of its route, or at its end
abbrev pub switch_move_answer : TunnelValue → Option ℕ → SwitchPacketMoved
switch_move_answer t None = record { end = Arrive; tunnel = t }
switch_move_answer t (Some other) = record { end = Move other; tunnel = advanced_tunnel t }

-- along a new route; stuck exactly if there is none
abbrev pub switch_moved_along_route : SwitchValue → ℕ → TunnelValue → Option (List ℕ) → SwitchPacketMoved
switch_moved_along_route s near t None = record {
  end = Stuck (switch_stuck_cause s near t.down t.leg t.targets);
  tunnel = t;
}
switch_moved_along_route s near t (Some route) = switch_move_answer (tunnel_on_route t route) (next (tunnel_on_route t route))

-- the switch takes a new route for the packet, by its usable links and what it knows about others
unfoldable pub switch_rerouted_here : SwitchValue → ℕ → TunnelValue → SwitchPacketMoved
switch_rerouted_here s near t = switch_moved_along_route s near t (tunnel_route_from_here t s.database near)

-- the next switch, if the link to it is found down: it isn't usable
abbrev pub switch_found_link_down : ℕ → Option ℕ → Option ℕ
switch_found_link_down near None = None
switch_found_link_down near (Some other) = if has near other then None else Some other

-- a link that is found down is marked, and the packet takes a new route; otherwise it moves on
abbrev pub switch_hopped_to : SwitchValue → ℕ → TunnelValue → Option ℕ → SwitchPacketMoved
switch_hopped_to s near t None = switch_move_answer t (next t)
switch_hopped_to s near t (Some other) = switch_rerouted_here s near (tunnel_marked_down t other)

unfoldable pub switch_hop_answer : SwitchValue → ℕ → TunnelValue → SwitchPacketMoved
switch_hop_answer s near t = switch_hopped_to s near t (switch_found_link_down near (next t))

-- where a packet with this next switch moves on
abbrev pub switch_hop_onward : ℕ → Option ℕ → Onward
switch_hop_onward near None = AtEnd
switch_hop_onward near (Some other) = if has near other then Next other else LinkDown other
