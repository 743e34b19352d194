-- What a hop wrote where a link was found down: the way around it, or that there is none.
use Rattle.std.proofs.Common.{[], ◌++◌, ◌∙◌, ◌∷◌, ◌≡◌, List, None, Option, Result, Some, ap, append-nil, subst, sym, ℕ}
use Rattle.base.proofs.Exports.{get_or_from_slice_get}
use Rattle.failover.specs.Exports.{route_of, with_failover_link}
use Rattle.journal.specs.declared.item.Item.TheVariants as item
use Rattle.update_machine.specs.Exports.{Cause, Leg, Ports}
use Rattle.switch_core.specs.Exports.{MaySwitchEndLeg, SwitchPacketMoved, SwitchStandsAtRoutePlace, SwitchValue, are_switch_targets_isolated, switch_call_counted, switch_stuck_cause, switch_found_down_with, switch_hop_answer, switch_move_answer, switch_moved_along_route}
use Rattle.switch_core.specs.declared.tunnel_calls.HopEnd.TheVariants as hop
use Rattle.switch_core.proofs.SwitchHops.{hop_around, hop_stays}
use Rattle.tunnel.specs.Exports.{here, tunnel_marked_down, next, tunnel_on_route}
use Rattle.travelling.specs.Travelling.{TravellingFlight, TravellingStanding, travelling_flight_begun_at, traveller_found_down_at, travels_by}
use Rattle.world_log.specs.Exports.{LogAfter, LogMeetsDownLink, log_ended_switch, log_followed, log_followed_flight, log_followed_items, log_followed_posts, log_hop_flight, log_hop_posts, log_hop_written, log_hopped_switch}
use Rattle.world_log.specs.declared.log.Log.{Log}
use Rattle.world_log.proofs.LogCalls.{log_behind}
use Rattle.world_log.proofs.LogPacketMoves.{authority_counted}
use Rattle.world_log.proofs.LogHops.{hop_log, turned_along}

-- the switch finds a route around the link, or none, as it does for the packet
module _ (at : TravellingStanding) (version : ℕ) (rule : Option ℕ) (leg : Leg) (targets : List ℕ)
    (other : ℕ) (before s : SwitchValue) (near : ℕ) (t : TravellingFlight)
    (met : LogMeetsDownLink at version rule leg targets other before s near t) (links : List ℕ)
    (links_are : links ≡ (traveller_found_down_at at other).down) where
  pub stands : here t.tunnel ≡ before.number
  stands = get_or_from_slice_get t.tunnel.route t.tunnel.place before.number 0 met.here

  links_is : links ≡ switch_found_down_with t.tunnel other
  links_is = cc (links_are, met.stands, stands)

  pub around : (found : Option (List ℕ)) → route_of s.database s.number targets near links ≡ found
      → switch_hop_answer before near t.tunnel ≡ switch_moved_along_route before near (tunnel_marked_down t.tunnel other) found
  around found is = hop_around before near t.tunnel other found met.found
      (ap (λ n. route_of before.database n t.tunnel.targets near (switch_found_down_with t.tunnel other)) stands
      ∙ ap (λ these. route_of before.database before.number these near (switch_found_down_with t.tunnel other))
      (sym met.targets) ∙ ap (route_of before.database before.number targets near) (sym links_is)
      ∙ rw met.asked at is)

  pub why : (cause : Cause) → cause ≡ switch_stuck_cause s near links leg targets
      → cause ≡ switch_stuck_cause before near (switch_found_down_with t.tunnel other) t.tunnel.leg t.tunnel.targets
  unfolding switch_stuck_cause are_switch_targets_isolated
  why cause is = rw met.asked at is ∙ ap (λ down. switch_stuck_cause before near down leg targets) links_is
      ∙ ap (λ l. switch_stuck_cause before near (switch_found_down_with t.tunnel other) l targets) met.leg
      ∙ ap (switch_stuck_cause before near (switch_found_down_with t.tunnel other) t.tunnel.leg) met.targets

  -- on that route
  abbrev pub turned : List ℕ → TravellingFlight
  turned route = record t { tunnel = tunnel_on_route (tunnel_marked_down t.tunnel other) route }

  pub turned_is : (route : List ℕ)
      → travels_by (travelling_flight_begun_at (traveller_found_down_at at other) leg targets route) version rule ≡ turned route
  turned_is route = cc (met.stands, stands, met.leg, met.targets, met.version, met.rule)

  -- ---- there is none

  module _ (cause : Cause) (none : route_of s.database s.number targets near links ≡ None)
      (why_is : cause ≡ switch_stuck_cause s near links leg targets) where
    is_stuck : switch_hop_answer before near t.tunnel
        ≡ record { end = hop.Stuck cause; tunnel = tunnel_marked_down t.tunnel other }
    is_stuck = cc (around None none, why cause why_is)

    pub stuck_log : {T E : Type 0} (r : Result T E) (ports : Ports) (number : ℕ) (old mid new : Log)
        → mid.journal ≡ old.journal ++ item.FoundDown at.packet at.switch other ∷ []
        → mid.bag ≡ old.bag → mid.travelling ≡ old.travelling
        → LogAfter r (item.Stuck at.packet at.switch cause leg (traveller_found_down_at at other).down ∷ []) []
        at.packet None mid new → LogAfter r (log_hop_written number before near ports t)
        (log_hop_posts before near ports t) at.packet (log_hop_flight before near ports t) old new
    stuck_log r ports number old mid new grown same_bag same log = let packet = at.packet in
        hop_log before near ports t r number packet (Some other)
        (record { end = hop.Stuck cause; tunnel = tunnel_marked_down t.tunnel other }) old new met.found
        is_stuck
        (subst (λ n. LogAfter r (item.FoundDown t.tunnel.packet before.number other ∷ item.Stuck
        t.tunnel.packet before.number cause t.tunnel.leg (with_failover_link t.tunnel.down n other) ∷ []) []
        packet None old new) (sym stands) (subst (λ l. LogAfter r
        (item.FoundDown t.tunnel.packet before.number other ∷ item.Stuck t.tunnel.packet
        before.number cause l (with_failover_link t.tunnel.down before.number other) ∷ []) [] packet None old
        new) met.leg (subst (λ (a : TravellingStanding). LogAfter r (item.FoundDown a.packet a.switch other
        ∷ item.Stuck a.packet a.switch cause leg (traveller_found_down_at a other).down ∷ []) [] packet None old
        new) met.stands (log_behind r (item.FoundDown at.packet at.switch other ∷ [])
        (item.Stuck at.packet at.switch cause leg (traveller_found_down_at at other).down ∷ []) [] [] packet None
        old mid new grown (same_bag ∙ sym (append-nil old.bag)) same log))))

    pub stuck_switch : switch_call_counted before ≡ log_hopped_switch before near t
    stuck_switch = ap (λ (m : SwitchPacketMoved). log_ended_switch (switch_call_counted before) m.end) (sym is_stuck)

  -- ---- along a route

  module _ (route : List ℕ) (some : route_of s.database s.number targets near links ≡ Some route)
    where
      goes : switch_hop_answer before near t.tunnel ≡ log_followed (turned route)
      goes = around (Some route) some

      abbrev begun : TravellingFlight
      begun = travels_by (travelling_flight_begun_at (traveller_found_down_at at other) leg targets route) version rule

      pub turned_log : {T E : Type 0} (r : Result T E) (ports : Ports) (number : ℕ) (old mid
          new : Log) → mid.journal ≡ old.journal ++ item.FoundDown at.packet at.switch other
          ∷ item.Rerouted at.packet route ∷ [] → mid.bag ≡ old.bag → mid.travelling ≡ old.travelling
          → LogAfter r (log_followed_items number s near ports begun)
          (log_followed_posts s near ports begun) at.packet (log_followed_flight s near ports begun) mid new
          → LogAfter r (log_hop_written number before near ports t) (log_hop_posts before near ports t)
          at.packet (log_hop_flight before near ports t) old new
      turned_log r ports number old mid new grown same_bag same log =
          let packet = at.packet in
          let m : SwitchPacketMoved = log_followed (turned route) in
          hop_log before near ports t r number packet (Some other) m old new met.found goes
          (log_behind r _ (log_followed_items number (switch_call_counted before) near ports (turned route)) []
          (log_followed_posts (switch_call_counted before) near ports (turned route)) packet
          (log_followed_flight (switch_call_counted before) near ports (turned route)) old mid new
          (grown ∙ ap (λ (a : TravellingStanding). old.journal ++ item.FoundDown a.packet a.switch other
          ∷ item.Rerouted a.packet route ∷ []) met.stands
          ∙ ap (λ js. old.journal ++ js) (sym (turned_along t.tunnel.packet before.number other
          (turned route).tunnel (next (turned route).tunnel))))
          (same_bag ∙ sym (append-nil old.bag)) same (subst (λ w. LogAfter r (log_followed_items number
          w near ports (turned route)) (log_followed_posts w near ports (turned route)) packet
          (log_followed_flight w near ports (turned route)) mid new) met.asked
          (subst (λ f. LogAfter r (log_followed_items number s near ports f) (log_followed_posts s near
          ports f) packet (log_followed_flight s near ports f) mid new) (turned_is route) log)))

      -- where its route is that one switch it has arrived there
      pub last_here : next begun.tunnel ≡ None → SwitchStandsAtRoutePlace s begun.tunnel.route begun.tunnel.place
          × MaySwitchEndLeg s begun.tunnel.header begun.tunnel.leg
      last_here none =
          let ends : switch_hop_answer before near t.tunnel
          ≡ record { end = hop.Arrive; tunnel = (turned route).tunnel } =
          goes ∙ ap (switch_move_answer (turned route).tunnel)
          (ap (λ (f : TravellingFlight). next f.tunnel) (sym (turned_is route)) ∙ none) in
          let arrives = ap (λ (m : SwitchPacketMoved). m.end) ends in
          let there = subst (λ (m : SwitchPacketMoved). SwitchStandsAtRoutePlace before m.tunnel.route m.tunnel.place) ends
          (hop_stays before near t.tunnel met.here arrives) in
          let at = authority_counted before t.tunnel.header t.tunnel.leg (met.authority arrives) in
          subst (λ (f : TravellingFlight). SwitchStandsAtRoutePlace s f.tunnel.route f.tunnel.place
          × MaySwitchEndLeg s f.tunnel.header f.tunnel.leg) (sym (turned_is route))
          (rw met.asked (there, at))

      pub turned_switch : (now : SwitchValue) → now ≡ log_ended_switch s (log_followed begun).end
          → now ≡ log_hopped_switch before near t
      turned_switch now is = cc (is, turned_is route, met.asked, goes)
