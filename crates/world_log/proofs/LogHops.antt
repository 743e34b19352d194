-- What a hop wrote, by the link that it found down, if any, and by where it ended.
use Rattle.std.proofs.Common.{[], ◌++◌, ◌+◌, ◌∙◌, ◌∷◌, ◌≡◌, List, None, Option, Result, Some, ap, length, option_map, refl, slice_get, subst, sym, ℕ}
use Rattle.base.proofs.Exports.{on_ok_weaker}
use Rattle.update_machine.specs.Exports.{Item, Leg, Ports}
use Rattle.journal.specs.declared.item.Item.TheVariants as item
use Rattle.message_bag.specs.Exports.{Post}
use Rattle.switch_core.specs.Exports.{SwitchArrival, SwitchPacketMoved, SwitchValue, switch_site_around, switch_arrival_on_leg, switch_call_counted, switch_hop_answer, switch_hopped_to, switch_found_link_down, switch_move_answer, switch_hop_onward, switch_received}
use Rattle.switch_core.specs.declared.packet.Onward.{Onward}
use Rattle.switch_core.specs.declared.tunnel_calls.HopEnd.{HopEnd}
use Rattle.switch_core.specs.declared.tunnel_calls.HopEnd.TheVariants as hop
use Rattle.tunnel.specs.Exports.{TunnelValue, advanced_tunnel, next}
use Rattle.travelling.specs.Travelling.{TravellingFlight, TravellingStanding, travelling_flight_placed_at, traveller_standing_at}
use Rattle.world_log.specs.Exports.{LogHasHopped, IsLogPart, LogAfter, log_arrival, log_arrival_items, log_arrival_posts, log_arrived_flight, log_arrived_items, log_arrived_posts, log_ended_flight, log_ended_items, log_ended_posts, log_ended_switch, log_hop_flight, log_hop_posts, log_hop_written, log_packet_standing, log_turned_items}
use Rattle.world_log.specs.declared.log.Log.{Log}
use Rattle.world_log.proofs.LogStepWrites.{part_first}

-- the answer for the packet at this place of this route is that for it as it is kept
pub passed_by : (near : ℕ) (answer : Onward) (route : List ℕ) (place : ℕ) (t : TunnelValue)
    → route ≡ t.route → place ≡ t.place → answer ≡ switch_hop_onward near (slice_get route (place + 1))
    → answer ≡ switch_hop_onward near (next t)
passed_by near answer route place t route_is place_is is = cc (is, route_is, place_is)

-- ---- all that a hop wrote

module _ (s : SwitchValue) (near : ℕ) (ports : Ports) (t : TravellingFlight) where
  abbrev pub items_by : ℕ → Option ℕ → SwitchPacketMoved → List Item
  items_by number found m = log_turned_items t.tunnel.packet s.number found m.end m.tunnel.route
      ++ log_ended_items number (switch_call_counted s) near ports (record t { tunnel = m.tunnel }) m.end

  abbrev pub posts_by : SwitchPacketMoved → List Post
  posts_by m = log_ended_posts (switch_call_counted s) near ports (record t { tunnel = m.tunnel }) m.end

  abbrev pub flight_by : SwitchPacketMoved → Option TravellingFlight
  flight_by m = log_ended_flight (switch_call_counted s) near ports (record t { tunnel = m.tunnel }) m.end

  pub hop_log : {T E : Type 0} (r : Result T E) (number packet : ℕ) (found : Option ℕ) (m : SwitchPacketMoved)
      (old new : Log) → switch_found_link_down near (next t.tunnel) ≡ found → switch_hop_answer s near t.tunnel
      ≡ m → LogAfter r (items_by number found m) (posts_by m) packet (flight_by m) old new
      → LogAfter r (log_hop_written number s near ports t) (log_hop_posts s near ports t) packet
      (log_hop_flight s near ports t) old new
  hop_log r number packet found m old new found_is moved_is log = rw found_is (rw moved_is log)

  -- where no link was found down
  pub free_hop : (onward : Option ℕ) → switch_found_link_down near (next t.tunnel) ≡ None
      → next t.tunnel ≡ onward → switch_hop_answer s near t.tunnel ≡ switch_move_answer t.tunnel onward
  unfolding switch_hop_answer
  free_hop onward free is = ap (switch_hopped_to s near t.tunnel) free ∙ ap (switch_move_answer t.tunnel) is

  pub passed_hop : {T E : Type 0} (r : Result T E) (packet : ℕ) (onward : Option ℕ) (old new : Log)
      (after : SwitchValue) → switch_found_link_down near (next t.tunnel) ≡ None → next t.tunnel ≡ onward
      → LogAfter r (items_by (length old.bag + 1) None (switch_move_answer t.tunnel onward)) (posts_by
      (switch_move_answer t.tunnel onward)) packet (flight_by (switch_move_answer t.tunnel onward)) old new
      → after ≡ log_ended_switch (switch_call_counted s) (switch_move_answer t.tunnel onward).end
      → LogHasHopped r packet s near ports old after new t
  passed_hop r packet onward old new after free is log asked =
      let to = free_hop onward free is in record {
        log = hop_log r (length old.bag + 1) packet None (switch_move_answer t.tunnel onward) old new free
            to log;
        counted = on_ok_weaker r (λ _. asked
            ∙ ap (λ (m : SwitchPacketMoved). log_ended_switch (switch_call_counted s) m.end) (sym to)) log.written;
      }

-- it moved on over a usable link
pub move_hop : {T E : Type 0} (r : Result T E) (s : SwitchValue) (near : ℕ) (ports : Ports)
    (t : TravellingFlight) (packet place other : ℕ) (there : Option TravellingFlight) (old new : Log)
    (after : SwitchValue) → Some t ≡ there → t.tunnel.packet ≡ packet → place ≡ t.tunnel.place + 1
    → switch_found_link_down near (next t.tunnel) ≡ None → next t.tunnel ≡ Some other → LogAfter r
    (item.Hopped packet other ∷ []) [] packet (option_map (travelling_flight_placed_at place) there) old new
    → after ≡ switch_call_counted s → LogHasHopped r packet s near ports old after new t
move_hop r s near ports t packet place other there old new after its same place_is free is log =
    passed_hop s near ports t r packet (Some other) old new after free is
    (subst (λ k. LogAfter r (item.Hopped k other ∷ []) [] packet
    (Some (record t { tunnel = advanced_tunnel t.tunnel })) old new) (sym same)
    (subst (λ o. LogAfter r (item.Hopped packet other ∷ []) [] packet
    (option_map (travelling_flight_placed_at (t.tunnel.place + 1)) o) old new) (sym its)
    (subst (λ k. LogAfter r (item.Hopped packet other ∷ []) [] packet
    (option_map (travelling_flight_placed_at k) there) old new) place_is log)))

-- ---- a link was found down

-- a part of what a hop writes: that link alone
pub found_part : (s : SwitchValue) (near : ℕ) (ports : Ports) (t : TravellingFlight) (number packet here
    other : ℕ) (old new : List Item) → switch_found_link_down near (next t.tunnel) ≡ Some other
    → packet ≡ t.tunnel.packet → here ≡ s.number → new ≡ old ++ item.FoundDown packet here other
    ∷ [] → IsLogPart old (log_hop_written number s near ports t) new
found_part s near ports t number packet here other old new found packet_is here_is grown = rw found
    (by_end (switch_hop_answer s near t.tunnel).end (switch_hop_answer s near t.tunnel).tunnel.route _)
  where
    its : new ≡ old ++ item.FoundDown t.tunnel.packet s.number other ∷ []
    its = cc (grown, packet_is, here_is)

    by_end : (end : HopEnd) (route : List ℕ) (more : List Item)
        → IsLogPart old (log_turned_items t.tunnel.packet s.number (Some other) end route ++ more) new
    by_end hop.Arrive route more = part_first old new _ _ its
    by_end (hop.Move next) route more = part_first old new _ _ its
    by_end (hop.Stuck cause) route more = part_first old new _ _ its

-- a packet that goes on along this route took it first
pub turned_along : (packet here other : ℕ) (t : TunnelValue) (onward : Option ℕ)
    → log_turned_items packet here (Some other) (switch_move_answer t onward).end (switch_move_answer t
    onward).tunnel.route ≡ item.FoundDown packet here other ∷ item.Rerouted packet t.route ∷ []
turned_along packet here other t None = refl
turned_along packet here other t (Some next) = refl

-- ---- at the end of its route

-- what holds at the packet's place of its route holds at this place of this route
pub placed : (P : List ℕ → ℕ → Type 0) (route : List ℕ) (place : ℕ) (t : TunnelValue)
    → route ≡ t.route → place ≡ t.place → P t.route t.place → P route place
placed P route place t route_is place_is holds = rw route_is (rw place_is holds)

-- what was written of the packet that is there, by its switch's answer, is what its arrival writes
pub arrival_log : {T E : Type 0} (r : Result T E) (number : ℕ) (w : SwitchValue) (near : ℕ)
    (ports : Ports) (t : TravellingFlight) (at : TravellingStanding) (version : ℕ) (rule : Option ℕ)
    (leg : Leg) (packet : ℕ) (said : SwitchArrival) (old new : Log) → at ≡ traveller_standing_at w.number t
    → version ≡ t.version → rule ≡ t.rule → leg ≡ t.tunnel.leg → at.packet ≡ packet
    → said ≡ switch_arrival_on_leg w (switch_site_around near ports) (log_packet_standing at) leg
    → LogAfter r (log_arrived_items number at version rule said) (log_arrived_posts at said) at.packet
    (log_arrived_flight version rule said) old new → LogAfter r (log_arrival_items number w near ports t)
    (log_arrival_posts w near ports t) packet (log_arrival w near ports t) old new
unfolding log_arrival_items log_arrival_posts log_arrival switch_received
arrival_log r number w near ports t at version rule leg packet said old new at_is version_is rule_is
    leg_is packet_is said_is log =
    let P : ℕ → TravellingStanding → ℕ → Option ℕ → SwitchArrival → Type 0 = λ packet at version rule what.
    LogAfter r (log_arrived_items number at version rule what) (log_arrived_posts at what) packet
    (log_arrived_flight version rule what) old new in
    let now = traveller_standing_at w.number t in
    subst (λ leg. P packet now t.version t.rule (switch_arrival_on_leg w (switch_site_around near ports)
    (log_packet_standing now) leg)) leg_is
    (subst (λ rule. P packet now t.version rule (switch_arrival_on_leg w (switch_site_around near ports)
    (log_packet_standing now) leg)) rule_is (subst (λ version. P packet now version rule
    (switch_arrival_on_leg w (switch_site_around near ports) (log_packet_standing now) leg)) version_is (subst (λ at. P packet
    at version rule (switch_arrival_on_leg w (switch_site_around near ports) (log_packet_standing at) leg)) at_is (subst
    (P packet at version rule) said_is (subst (λ k. P k at version rule said) packet_is log)))))
