-- What a switch's move makes of a packet: it keeps its number, its header, its leg and its ingress.
use Rattle.std.proofs.Common.{◌≡◌, List, None, Option, Some, refl, ℕ}
use Rattle.update_machine.specs.Exports.{Exit, Header, Leg, Seek}
use Rattle.switch_core.specs.Exports.{MaySwitchEndLeg, SwitchValue, switch_call_counted, switch_hop_answer, switch_hopped_to, switch_found_link_down, switch_move_answer, switch_moved_along_route, switch_rerouted_here}
use Rattle.tunnel.specs.Exports.{TunnelValue, tunnel_marked_down, next, tunnel_on_route, tunnel_route_from_here}

-- the same packet on the same leg
pub record SamePacket (old new : TunnelValue) : Type 0 where
  pub packet : new.packet ≡ old.packet
  pub header : new.header ≡ old.header
  pub leg : new.leg ≡ old.leg
  pub ingress : new.ingress ≡ old.ingress

moved_same : (t : TunnelValue) (onward : Option ℕ) → SamePacket t (switch_move_answer t onward).tunnel
moved_same t None = record { packet = refl; header = refl; leg = refl; ingress = refl }
moved_same t (Some other) = record { packet = refl; header = refl; leg = refl; ingress = refl }

along_same : (w : SwitchValue) (near : ℕ) (t : TunnelValue) (route : Option (List ℕ))
    → SamePacket t (switch_moved_along_route w near t route).tunnel
along_same w near t None = record { packet = refl; header = refl; leg = refl; ingress = refl }
along_same w near t (Some route) =
    let same = moved_same (tunnel_on_route t route) (next (tunnel_on_route t route)) in
    record { packet = same.packet; header = same.header; leg = same.leg; ingress = same.ingress }

pub hopped_same : (w : SwitchValue) (near : ℕ) (t : TunnelValue)
    → SamePacket t (switch_hop_answer w near t).tunnel
unfolding switch_hop_answer switch_rerouted_here
hopped_same w near t = by_link (switch_found_link_down near (next t)) where
  by_link : (o : Option ℕ) → SamePacket t (switch_hopped_to w near t o).tunnel
  by_link None = moved_same t (next t)
  by_link (Some other) =
      let met : TunnelValue = tunnel_marked_down t other in
      let same = along_same w near met (tunnel_route_from_here met w.database near) in
      record { packet = same.packet; header = same.header; leg = same.leg; ingress = same.ingress }

-- one more call changes nothing at an authority switch
pub authority_counted : (w : SwitchValue) (header : Header) (leg : Leg)
    → MaySwitchEndLeg w header leg → MaySwitchEndLeg (switch_call_counted w) header leg
authority_counted w header (Seek version partition) at = at
authority_counted w header (Exit port) at = tt
