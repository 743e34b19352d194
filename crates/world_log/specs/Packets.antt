-- What becomes of the journal and of the packets on their way when a packet enters or moves on.
use Rattle.std.specs.Prelude.{[], ◌++◌, ◌+◌, ◌<◌, ◌∷◌, ◌≡◌, IsTrue, List, None, OnErr, OnOk, Option, Result, Some, length, set, slice_get, slice_index, ℕ}
use Rattle.message_bag.specs.Exports.{Post}
use Rattle.failover.specs.Exports.{no_failover_links}
use Rattle.update_machine.specs.Exports.{Header, Item, Leg, Ports}
use Rattle.journal.specs.declared.item.Item.TheVariants as item
use Rattle.switch_core.specs.Exports.{SwitchAnswer, CanSwitchLookUp, MaySwitchEndLeg, SwitchPacketMoved, SwitchStandsAtRoutePlace, SwitchValue, switch_admitted, switch_site_around, switch_call_counted, switch_hop_answer, switch_incoming_packet, switch_found_link_down, switch_move_answer, switch_received, serves}
use Rattle.switch_core.specs.declared.tunnel_calls.HopEnd.{HopEnd}
use Rattle.switch_core.specs.declared.tunnel_calls.HopEnd.TheVariants as hop
use Rattle.tunnel.specs.Exports.{here, next}
use Rattle.travelling.specs.Travelling.{TravellingFlight, TravellingStanding, flight, traveller_standing_at}
use Rattle.world_log.specs.Writing.{LogAfter, log_arrived_items, log_arrived_posts, log_arrived_flight}
use Rattle.world_log.specs.declared.log.Log.{Log}

-- a packet that enters at a switch
abbrev pub log_coming_in : ℕ → Header → ℕ → TravellingStanding
log_coming_in packet header switch = record {
  packet = packet;
  header = header;
  ingress = switch;
  switch = switch;
  down = no_failover_links;
}

-- what the switch returns for the packet that enters
abbrev pub entry : SwitchValue → ℕ → Ports → ℕ → Header → Option SwitchAnswer
entry s near ports packet header = switch_admitted s (switch_site_around near ports) (switch_incoming_packet s packet header)

-- what its arrival writes and posts if the next message has this number, and where it then is
unfoldable pub log_arrival_items : ℕ → SwitchValue → ℕ → Ports → TravellingFlight → List Item
log_arrival_items number s near ports flight =
    log_arrived_items number (traveller_standing_at s.number flight) flight.version flight.rule
    (switch_received s (switch_site_around near ports) flight.tunnel)

unfoldable pub log_arrival_posts : SwitchValue → ℕ → Ports → TravellingFlight → List Post
log_arrival_posts s near ports flight =
    log_arrived_posts (traveller_standing_at s.number flight) (switch_received s (switch_site_around near ports) flight.tunnel)

unfoldable pub log_arrival : SwitchValue → ℕ → Ports → TravellingFlight → Option TravellingFlight
log_arrival s near ports flight =
    log_arrived_flight flight.version flight.rule
    (switch_received s (switch_site_around near ports) flight.tunnel)

-- ---- when it moves on

-- what a link that was found down writes, with the packet's route around it unless it is stuck
abbrev pub log_turned_items : ℕ → ℕ → Option ℕ → HopEnd → List ℕ → List Item
log_turned_items packet here None end route = []
log_turned_items packet here (Some other) (hop.Stuck cause) route =
    item.FoundDown packet here other ∷ []
log_turned_items packet here (Some other) _ route =
    item.FoundDown packet here other ∷ item.Rerouted packet route ∷ []

-- what is written when the packet is at the end of its route, moves to the next switch or is stuck
abbrev pub log_ended_items : ℕ → SwitchValue → ℕ → Ports → TravellingFlight → HopEnd → List Item
log_ended_items number s near ports t hop.Arrive = log_arrival_items number s near ports t
log_ended_items number s near ports t (hop.Move other) = item.Hopped t.tunnel.packet other ∷ []
log_ended_items number s near ports t (hop.Stuck cause) =
    item.Stuck t.tunnel.packet s.number cause t.tunnel.leg t.tunnel.down ∷ []

abbrev pub log_ended_posts : SwitchValue → ℕ → Ports → TravellingFlight → HopEnd → List Post
log_ended_posts s near ports t hop.Arrive = log_arrival_posts s near ports t
log_ended_posts s near ports t _ = []

-- the switch, called once more if the packet arrives
abbrev pub log_ended_switch : SwitchValue → HopEnd → SwitchValue
log_ended_switch s hop.Arrive = switch_call_counted s
log_ended_switch s _ = s

-- the packet as the switch's move leaves it
abbrev pub log_hopped_flight : SwitchValue → ℕ → TravellingFlight → TravellingFlight
log_hopped_flight s near t = record t { tunnel = (switch_hop_answer s near t.tunnel).tunnel }

-- all that a hop writes and posts, and where the packet is then
abbrev pub log_hop_written : ℕ → SwitchValue → ℕ → Ports → TravellingFlight → List Item
log_hop_written number s near ports t =
    let moved = switch_hop_answer s near t.tunnel in
    log_turned_items t.tunnel.packet s.number (switch_found_link_down near (next t.tunnel)) moved.end
    moved.tunnel.route
    ++ log_ended_items number (switch_call_counted s) near ports (log_hopped_flight s near t) moved.end

abbrev pub log_hop_posts : SwitchValue → ℕ → Ports → TravellingFlight → List Post
log_hop_posts s near ports t =
    log_ended_posts (switch_call_counted s) near ports (log_hopped_flight s near t)
    (switch_hop_answer s near t.tunnel).end

abbrev pub log_ended_flight : SwitchValue → ℕ → Ports → TravellingFlight → HopEnd → Option TravellingFlight
log_ended_flight s near ports t hop.Arrive = log_arrival s near ports t
log_ended_flight s near ports t (hop.Move other) = Some t
log_ended_flight s near ports t (hop.Stuck cause) = None

abbrev pub log_hop_flight : SwitchValue → ℕ → Ports → TravellingFlight → Option TravellingFlight
log_hop_flight s near ports t =
    log_ended_flight (switch_call_counted s) near ports (log_hopped_flight s near t)
    (switch_hop_answer s near t.tunnel).end

abbrev pub log_hopped_switch : SwitchValue → ℕ → TravellingFlight → SwitchValue
log_hopped_switch s near t = log_ended_switch (switch_call_counted s) (switch_hop_answer s near t.tunnel).end

-- ---- along a new route

-- a packet at the beginning of this route moves to the second switch, or is at the end
abbrev pub log_followed : TravellingFlight → SwitchPacketMoved
log_followed t = switch_move_answer t.tunnel (next t.tunnel)

abbrev pub log_followed_items : ℕ → SwitchValue → ℕ → Ports → TravellingFlight → List Item
log_followed_items number s near ports t =
    log_ended_items number s near ports (record t { tunnel = (log_followed t).tunnel }) (log_followed t).end

abbrev pub log_followed_posts : SwitchValue → ℕ → Ports → TravellingFlight → List Post
log_followed_posts s near ports t =
    log_ended_posts s near ports (record t { tunnel = (log_followed t).tunnel }) (log_followed t).end

abbrev pub log_followed_flight : SwitchValue → ℕ → Ports → TravellingFlight → Option TravellingFlight
log_followed_flight s near ports t =
    log_ended_flight s near ports (record t { tunnel = (log_followed t).tunnel }) (log_followed t).end

-- the packet `t` is at this switch, with this version and rule, on this leg to these targets; the
-- switch was called to move it on, and found the link to `other` down
pub record LogMeetsDownLink (at : TravellingStanding) (its_version : ℕ) (its_rule : Option ℕ) (its_leg : Leg)
    (its_targets : List ℕ) (other : ℕ) (before after : SwitchValue) (near : ℕ) (t : TravellingFlight)
    : Type 0 where
  pub stands : at ≡ traveller_standing_at before.number t
  pub version : its_version ≡ t.version
  pub rule : its_rule ≡ t.rule
  pub leg : its_leg ≡ t.tunnel.leg
  pub targets : its_targets ≡ t.tunnel.targets
  pub here : SwitchStandsAtRoutePlace before t.tunnel.route t.tunnel.place
  pub found : switch_found_link_down near (next t.tunnel) ≡ Some other
  pub asked : after ≡ switch_call_counted before
  pub authority : (switch_hop_answer before near t.tunnel).end ≡ hop.Arrive
      → MaySwitchEndLeg before t.tunnel.header t.tunnel.leg
  pub ingress : t.tunnel.ingress < 64

-- ---- what a hop needs, and all that it does to a log and to the switches

-- the packet of this number is at the switch, which may be called to move it on, and which can
-- decide it if it arrives there
pub record MayLoggedPacketGoOn (packet : ℕ) (s : SwitchValue) (near : ℕ) (t : TravellingFlight) : Type 0 where
  pub known : t.tunnel.packet ≡ packet
  pub here : SwitchStandsAtRoutePlace s t.tunnel.route t.tunnel.place
  pub serving : IsTrue (serves s)
  pub stamped : CanSwitchLookUp s
  pub authority : (switch_hop_answer s near t.tunnel).end ≡ hop.Arrive
      → MaySwitchEndLeg s t.tunnel.header t.tunnel.leg
  pub ingress : t.tunnel.ingress < 64

-- after the packet's hop: what was written and posted, where it is, and its switch's count of calls
pub record LogHasHopped {T E : Type 0} (result : Result T E) (packet : ℕ) (before : SwitchValue)
    (near : ℕ) (ports : Ports) (old : Log) (after : SwitchValue) (new : Log) (t : TravellingFlight)
    : Type 0 where
  pub log : LogAfter result (log_hop_written (length old.bag + 1) before near ports t)
      (log_hop_posts before near ports t) packet (log_hop_flight before near ports t) old new
  pub counted : OnOk result (after ≡ log_hopped_switch before near t)

module _ {T E : Type 0} (result : Result T E) (packet : ℕ) (near : List ℕ) (ports : Ports)
    (old : Log) (before : List SwitchValue) (new : Log) (after : List SwitchValue) where
  -- this is true of the packet at its switch; no other switch changed
  pub record HopsThere (t : TravellingFlight) : Type 0 where
    pub switch : SwitchValue
    pub asked : SwitchValue
    pub own : slice_get before (here t.tunnel) ≡ Some switch
    pub only : after ≡ set before (here t.tunnel) asked
    pub hopped : LogHasHopped result packet switch (slice_index near (here t.tunnel)) ports old asked
        new t

  -- only the item `Nothing` is written
  pub record DoesNothing : Type 0 where
    pub written : OnOk result (new.journal ≡ old.journal ++ item.Nothing ∷ [])
    pub unwritten : OnErr result (new.journal ≡ old.journal)
    pub rest : new ≡ record old { journal = new.journal }
    pub switches : after ≡ before

  -- after a hop: of this packet, or of none if it wasn't on its way
  abbrev pub Hops : Option TravellingFlight → Type 0
  Hops None = DoesNothing
  Hops (Some t) = HopsThere t
