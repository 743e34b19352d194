-- What becomes of a packet on its way, by the next link of its route.
use Rattle.std.proofs.Common.{[], ◌&&◌, ◌+◌, ◌<◌, ◌↔◌, ◌∙◌, ◌∷◌, ◌≡◌, Bool, IsFalse, IsTrue, List, MatchOption, None, Option, Some, ap, get_or-set_same, inl, inr, length-set, refl, slice_get, slice_index, sym, true, ℕ, rules}
use Rattle.base.proofs.Exports.{get_or_from_slice_get, get_or_past, has-zero}
use Rattle.policy_rules.specs.declared.packet.Cause.{Cause}
use Rattle.failover.proofs.FailoverKnownLinks.{has_known}
use Rattle.failover.proofs.RouteSearch.{known_route_is_route}
use Rattle.failover.specs.Exports.{IsFailoverPath, IsRoute, is_known_route_link, failover_known_links, neighbours_by_adverts, route_of}
use Rattle.base.specs.Exports.{has}
use Rattle.failover.specs.declared.advert.Advert.{Advert}
use Rattle.tunnel.specs.Exports.{TunnelValue, here, tunnel_marked_down, next, tunnel_on_route, tunnel_route_from_here}
use Rattle.switch_core.specs.Exports.{IsSwitchPacketSame, SwitchPacketMoved, SwitchStandsAtRoutePlace, SwitchValue, switch_stuck_cause, switch_found_down_with, switch_hop_answer, switch_hopped_to, switch_found_link_down, switch_move_answer, switch_moved_along_route, switch_rerouted_here, switch_route_around}
use Rattle.switch_core.specs.declared.tunnel_calls.HopEnd.TheVariants.{Arrive, Move, Stuck}

-- ---- a link that is found down

pub down_is : (near : ℕ) (t : TunnelValue) (other : ℕ) →
    (switch_found_link_down near (next t) ≡ Some other) ↔ ((next t ≡ Some other) × IsFalse (has near other))
down_is near t other = search rules

-- ---- the next link

pub hop_arrives : (s : SwitchValue) (near : ℕ) (t : TunnelValue) → next t ≡ None →
    switch_hop_answer s near t ≡ record { end = Arrive; tunnel = t }
unfolding switch_hop_answer
hop_arrives s near t none = cc none

pub hop_moves : (s : SwitchValue) (near : ℕ) (t : TunnelValue) (other : ℕ) →
    next t ≡ Some other → IsTrue (has near other) →
    switch_hop_answer s near t ≡ record { end = Move other; tunnel = record t { place = t.place + 1 } }
unfolding switch_hop_answer
hop_moves s near t other is usable = cc (is, usable)

-- along the way around a link
pub hop_around : (s : SwitchValue) (near : ℕ) (t : TunnelValue) (other : ℕ) (way : Option (List ℕ))
    → switch_found_link_down near (next t) ≡ Some other → switch_route_around s near t other ≡ way
    → switch_hop_answer s near t ≡ switch_moved_along_route s near (tunnel_marked_down t other) way
unfolding switch_hop_answer switch_rerouted_here
hop_around s near t other way found is = cc (found, is)

pub hop_stuck : (s : SwitchValue) (near : ℕ) (t : TunnelValue) (other : ℕ) →
    switch_found_link_down near (next t) ≡ Some other → switch_route_around s near t other ≡ None →
    switch_hop_answer s near t ≡ record {
      end = Stuck (switch_stuck_cause s near (switch_found_down_with t other) t.leg t.targets);
      tunnel = record t { down = switch_found_down_with t other };
    }
hop_stuck s near t other found none = hop_around s near t other None found none

-- it goes along the way around the link, by the second switch of the way
abbrev pub IsTurned : SwitchValue → ℕ → TunnelValue → ℕ → List ℕ → Option ℕ → Type 0
IsTurned s near t other way second = MatchOption second (switch_hop_answer s near t ≡ record {
  end = Arrive;
  tunnel = record t { route = way; place = 0; down = switch_found_down_with t other };
})
    (λ second. switch_hop_answer s near t ≡ record {
      end = Move second;
      tunnel = record t { route = way; place = 1; down = switch_found_down_with t other };
    })

pub hop_turns : (s : SwitchValue) (near : ℕ) (t : TunnelValue) (other : ℕ) (way : List ℕ) →
    switch_found_link_down near (next t) ≡ Some other → switch_route_around s near t other ≡ Some way →
    IsTurned s near t other way (slice_get way 1)
hop_turns s near t other way found some =
    by_second (slice_get way 1) (hop_around s near t other (Some way) found some)
  where
    by_second : (second : Option ℕ) →
        switch_hop_answer s near t ≡ switch_move_answer (tunnel_on_route (tunnel_marked_down t other) way) second →
        IsTurned s near t other way second
    by_second None is = is
    by_second (Some second) is = is

-- ---- where it is then

-- a packet stays the same on another route, and with other links down
same_but : (t : TunnelValue) (route : List ℕ) (place : ℕ) (down : List ℕ) →
    IsSwitchPacketSame t (record t { route = route; place = place; down = down })
same_but t route place down = refl

-- what is true of each move, and where a packet is stuck, is true of a hop
each_hop : (s : SwitchValue) (near : ℕ) (t : TunnelValue) (P : SwitchPacketMoved → Type 0) →
    ((on : TunnelValue) → IsSwitchPacketSame t on → P (switch_move_answer on (next on))) →
    ((other : ℕ) (cause : Cause) → P (record { end = Stuck cause; tunnel = tunnel_marked_down t other })) →
    P (switch_hop_answer s near t)
unfolding switch_hop_answer switch_rerouted_here
each_hop s near t P moves stuck = by_found (switch_found_link_down near (next t)) where
  by_way : (other : ℕ) (way : Option (List ℕ)) → P (switch_moved_along_route s near (tunnel_marked_down t other) way)
  by_way other None = stuck other _
  by_way other (Some way) = moves (tunnel_on_route (tunnel_marked_down t other) way) (same_but t way 0 _)

  by_found : (found : Option ℕ) → P (switch_hopped_to s near t found)
  by_found None = moves t (same_but t t.route t.place t.down)
  by_found (Some other) = by_way other (tunnel_route_from_here (tunnel_marked_down t other) s.database near)

pub hop_stands : (s : SwitchValue) (near : ℕ) (t : TunnelValue) (other : ℕ) →
    (switch_hop_answer s near t).end ≡ Move other → here (switch_hop_answer s near t).tunnel ≡ other
hop_stands s near t other is =
    each_hop s near t (λ m. m.end ≡ Move other → here m.tunnel ≡ other)
    (λ on same. by_next on (next on) refl) (λ from cause is. absurd (cc)) is
  where
    by_next : (on : TunnelValue) (after : Option ℕ) → next on ≡ after →
        (switch_move_answer on after).end ≡ Move other → here (switch_move_answer on after).tunnel ≡ other
    by_next on None is end = absurd (cc)
    by_next on (Some after) is end = let same : after ≡ other = cc in
        get_or_from_slice_get on.route (on.place + 1) after 0 is ∙ same

pub hop_ends : (s : SwitchValue) (near : ℕ) (t : TunnelValue) →
    (switch_hop_answer s near t).end ≡ Arrive → next (switch_hop_answer s near t).tunnel ≡ None
hop_ends s near t is =
    each_hop s near t (λ m. m.end ≡ Arrive → next m.tunnel ≡ None)
    (λ on same. by_next on (next on) refl) (λ from cause is. absurd (cc)) is
  where
    by_next : (on : TunnelValue) (after : Option ℕ) → next on ≡ after →
        (switch_move_answer on after).end ≡ Arrive → next (switch_move_answer on after).tunnel ≡ None
    by_next on None is end = is
    by_next on (Some after) is end = absurd (cc)

pub hop_same : (s : SwitchValue) (near : ℕ) (t : TunnelValue) →
    IsSwitchPacketSame t (switch_hop_answer s near t).tunnel
hop_same s near t = each_hop s near t (λ m. IsSwitchPacketSame t m.tunnel)
    (λ on same. by_next on (next on) same) (λ other cause. same_but t t.route t.place _)
  where
    by_next : (on : TunnelValue) (after : Option ℕ) → IsSwitchPacketSame t on →
        IsSwitchPacketSame t (switch_move_answer on after).tunnel
    by_next on None same = same
    by_next on (Some after) same = ap (λ (u : TunnelValue). (switch_move_answer u (Some after)).tunnel)
        same

-- ---- over usable links alone

-- the first link of a path
first_link : (links : List ℕ) (from target : ℕ) (way : List ℕ) (second : ℕ) →
    IsFailoverPath links from target way → slice_get way 1 ≡ Some second →
    (from < 64) × (second < 64) × IsTrue (has (slice_index links from) second)
unfolding IsFailoverPath
first_link links from target [] second path is = absurd path
first_link links from target (first ∷ []) second path is = absurd (cc)
first_link links from target (first ∷ other ∷ rest) second path is = search rules

-- a route is a path to some target
path_of : (links : List ℕ) (from : ℕ) (targets way : List ℕ) →
    IsRoute links from targets (Some way) → (target : ℕ) × IsFailoverPath links from target way
unfolding IsRoute
path_of links from [] way route = absurd (cc)
path_of links from (target ∷ targets) way route = elim route [
  | inl least ↦ (target, least.path)
  | inr later ↦ path_of links from targets way later.1
]

-- a switch that knows a link of its own sees it as usable
seen : (adverts : List (Option Advert)) (at near other : ℕ) →
    has (slice_index (neighbours_by_adverts adverts at near) at) other ≡ true → IsTrue (has near other)
unfolding neighbours_by_adverts
seen adverts at near other is = search (rules, get_or-set_same, length-set, has-zero, get_or_past)

second_of_four : (a b c d : Bool) → (a && b && c && d) ≡ true → b ≡ true
second_of_four a b c d is = search rules

-- a way is a path to some target by the links that are known
way_leads : (adverts : List (Option Advert)) (from near : ℕ) (down targets way : List ℕ) →
    route_of adverts from targets near down ≡ Some way →
    (target : ℕ) × IsFailoverPath (failover_known_links adverts from near down) from target way
way_leads adverts from near down targets way is = let links = failover_known_links adverts from near down in
    path_of links from targets way (rw is at (known_route_is_route adverts from targets near down))

way_is_usable : (adverts : List (Option Advert)) (from near : ℕ) (down targets way : List ℕ)
    (second : ℕ) → route_of adverts from targets near down ≡ Some way →
    slice_get way 1 ≡ Some second → IsTrue (has near second)
unfolding is_known_route_link
way_is_usable adverts from near down targets way second is next =
    let path = way_leads adverts from near down targets way is in
    let link = first_link (failover_known_links adverts from near down) from path.0 way second path.1 next in
    seen adverts from near second
    (second_of_four _ _ _ _
    (sym (has_known adverts from near down from second link.0 link.1) ∙ link.2))

pub hop_usable : (s : SwitchValue) (near : ℕ) (t : TunnelValue) (other : ℕ) →
    (switch_hop_answer s near t).end ≡ Move other → IsTrue (has near other)
unfolding switch_hop_answer switch_rerouted_here
hop_usable s near t other = search (rules, way_is_usable)

-- ---- where it arrives

-- a path begins where it leaves
path_begins : (links : List ℕ) (from target : ℕ) (way : List ℕ) →
    IsFailoverPath links from target way → slice_get way 0 ≡ Some from
unfolding IsFailoverPath
path_begins links from target way path = search rules

-- a packet that is here and arrives is still here
pub hop_stays : (s : SwitchValue) (near : ℕ) (t : TunnelValue) → SwitchStandsAtRoutePlace s t.route t.place →
    (switch_hop_answer s near t).end ≡ Arrive →
    SwitchStandsAtRoutePlace s (switch_hop_answer s near t).tunnel.route (switch_hop_answer s near t).tunnel.place
unfolding switch_hop_answer switch_rerouted_here
hop_stays s near t stands = search (rules, way_leads, path_begins, get_or_from_slice_get)
