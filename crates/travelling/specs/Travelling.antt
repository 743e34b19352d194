-- The packets on their way, by their numbers.
use Rattle.std.specs.Prelude.{if◌then◌else◌, ◌+◌, ◌<◌, ◌==◌, ◌≡◌, ◌≤◌, Bool, IsSome, List, MatchOption, None, Option, Some, false, filter, length, slice_index_or, true, unwrap_or, ℕ}
use Rattle.base.specs.Exports.{range_with_len}
use Rattle.failover.specs.Exports.{no_failover_links, with_failover_link}
use Rattle.five_tuple.specs.declared.header.Header.{Header}
use Rattle.policy_rules.specs.declared.packet.Leg.{Leg}
use Rattle.tunnel.specs.Exports.{TunnelValue, here, tunnel_begun}
use Rattle.travelling.specs.SwitchIndex.{is_traveller_marked}
use Rattle.travelling.specs.declared.stored_flight.StoredFlight.TheInside.{Inside}
use Rattle.travelling.specs.declared.standing.Standing as standing

-- a packet on its way: its tunnel, and the version and rule of its decision, 0 and None before it
pub record TravellingFlight : Type 0 where
  pub tunnel : TunnelValue
  pub version : ℕ
  pub rule : Option ℕ

-- for each number, what is known of its packet, if it travels
abbrev pub TravellingFlights : Type 0
TravellingFlights = List (Option TravellingFlight)

abbrev pub flight : TravellingFlights → ℕ → Option TravellingFlight
flight flights i = slice_index_or flights i None

-- the packet of this number is this one, or none; all others are as before
abbrev pub TravellingWithOne : TravellingFlights → ℕ → Option TravellingFlight → TravellingFlights → Type 0
TravellingWithOne before packet this after =
    (i : ℕ) → flight after i ≡ (if i == packet then this else flight before i)

-- the least number at or above `from` of a packet that travels; `None` if there is none
abbrev pub IsNextTravellerFrom : TravellingFlights → ℕ → Option ℕ → Type 0
IsNextTravellerFrom flights from next = MatchOption next
    ((i : ℕ) → from ≤ i → flight flights i ≡ None)
    (λ least. (from ≤ least) × IsSome (flight flights least)
    × ((i : ℕ) → from ≤ i → i < least → flight flights i ≡ None))

-- the packet of this tunnel, with the version and the rule of its decision
abbrev pub travels_by : TunnelValue → ℕ → Option ℕ → TravellingFlight
travels_by tunnel version rule = record { tunnel = tunnel; version = version; rule = rule }

-- its route has this place
abbrev pub TravellingFlightHasPlace : ℕ → TravellingFlight → Type 0
TravellingFlightHasPlace place t = place < length t.tunnel.route

-- at this place of its route
abbrev pub travelling_flight_placed_at : ℕ → TravellingFlight → TravellingFlight
travelling_flight_placed_at place t = record t { tunnel = record t.tunnel { place = place } }

-- ---- one packet where it is

pub record TravellingStanding : Type 0 where
  pub packet : ℕ
  pub header : Header
  pub ingress : ℕ
  pub switch : ℕ
  pub down : List ℕ

-- a packet on its way, at a switch
abbrev pub traveller_standing_at : ℕ → TravellingFlight → TravellingStanding
traveller_standing_at switch flight = record {
  packet = flight.tunnel.packet;
  header = flight.tunnel.header;
  ingress = flight.tunnel.ingress;
  switch = switch;
  down = flight.tunnel.down;
}

-- the link from its switch to another was found down
abbrev pub traveller_found_down_at : TravellingStanding → ℕ → TravellingStanding
traveller_found_down_at at other = record at { down = with_failover_link at.down at.switch other }

-- at the beginning of this route on its leg
abbrev pub travelling_flight_begun_at : TravellingStanding → Leg → List ℕ → List ℕ → TunnelValue
travelling_flight_begun_at at leg targets route =
    tunnel_begun at.packet at.header at.ingress leg targets route at.down

-- as contracts see it; without a set of links it found none down
abbrev pub traveller_standing_kept : standing.Standing → TravellingStanding
traveller_standing_kept at = record {
  packet = at.packet;
  header = at.header;
  ingress = at.ingress;
  switch = at.switch;
  down = unwrap_or at.down no_failover_links;
}

-- ---- where they are

-- there is a packet, and it is at the switch
abbrev pub travelling_stands_at : ℕ → Option TravellingFlight → Bool
travelling_stands_at switch None = false
travelling_stands_at switch (Some t) = here t.tunnel == switch

-- the least number at or above `from` of a packet at the switch; `None` if there is none
abbrev pub IsNextTravellerAt : TravellingFlights → ℕ → ℕ → Option ℕ → Type 0
IsNextTravellerAt flights switch from next = MatchOption next
    ((i : ℕ) → from ≤ i → travelling_stands_at switch (flight flights i) ≡ false)
    (λ least. (from ≤ least) × (travelling_stands_at switch (flight flights least) ≡ true)
    × ((i : ℕ) → from ≤ i → i < least → travelling_stands_at switch (flight flights i) ≡ false))

-- the packets at the switch, ascending by number
unfoldable pub travelling_numbers_at : TravellingFlights → ℕ → List ℕ
travelling_numbers_at flights switch =
    filter (λ i. travelling_stands_at switch (flight flights i)) (range_with_len 0 (length flights))

-- those that were at the switch no longer travel; all others are as before
abbrev pub TravellingWithoutAt : TravellingFlights → ℕ → TravellingFlights → Type 0
TravellingWithoutAt before switch after = (i : ℕ) → flight after i
    ≡ (if travelling_stands_at switch (flight before i) then None else flight before i)

-- ---- how they are kept

-- the packet in flight of a slot; without a set of links it found none down
abbrev pub travelling_flight_kept : Inside → TravellingFlight
travelling_flight_kept kept = record {
  tunnel = record {
    packet = kept.packet;
    header = kept.header;
    ingress = kept.ingress;
    leg = kept.leg;
    targets = kept.targets;
    route = kept.route;
    place = kept.place;
    down = unwrap_or kept.down no_failover_links;
  };
  version = kept.version;
  rule = kept.rule;
}

-- each packet is marked where it is, and nowhere else
abbrev pub AreTravellersMarked : TravellingFlights → List ℕ → Type 0
AreTravellersMarked flights by_switch =
    (i s : ℕ) → s < 64 → is_traveller_marked by_switch i s ≡ travelling_stands_at s (flight flights i)

-- packets are only at switches below 64
abbrev pub TravellingStandBelow : TravellingFlights → Type 0
TravellingStandBelow flights = (i s : ℕ) → 64 ≤ s → travelling_stands_at s (flight flights i) ≡ false

-- numbers have 32 bits, no packet below the first one travels, each is marked where it is, at a
-- switch below 64, and there is room for the marks of each number
pub record IsTravellingTable (flights : TravellingFlights) (first : ℕ) (by_switch : List ℕ) : Type 0 where
  pub few : length flights ≤ 4_294_967_296
  pub none : (i : ℕ) → i < first → flight flights i ≡ None
  pub room : (i : ℕ) → i < length flights → i + 64 ≤ length by_switch
  pub marked : AreTravellersMarked flights by_switch
  pub below : TravellingStandBelow flights
