-- A packet on its way: what is known of it.
use Rattle.std.proofs.Common.{if◌then◌else◌, ◌<◌, ◌≡◌, Bool, IsTrue, List, None, Some, false, get_or, length, option_map, refl, slice_get, sym, true, unwrap_or, ℕ}
use Rattle.base.proofs.Exports.{slice_get-get_or, slice_get_within, some_same}
use Rattle.five_tuple.specs.Exports.{IsHeader}
use Rattle.update_machine.specs.Exports.{Header, Item, Leg, Setting, serves, journal_leg_targets}
use Rattle.tunnel.specs.Exports.{TunnelValue}
use Rattle.packet_laws.specs.Exports.{IsPacketOnLeg, IsPacketOnWay, IsPacketServed, PacketFacts, packet_facts_of}
use Rattle.travelling.specs.Travelling.{TravellingFlight}
use Rattle.refinement.proofs.RefinedSteps.{Known, Travels, travels_known}
use Rattle.refinement.proofs.RefinedPacketFacts.{Targets, flight_by}

-- its tunnel, at this place of this route, with these links found down
abbrev pub tunnel_on : Targets → ℕ → Header → ℕ → Leg → List ℕ → ℕ → List ℕ → TunnelValue
tunnel_on targets i header ingress leg route place down = record {
  packet = i;
  header = header;
  ingress = ingress;
  leg = leg;
  targets = targets leg;
  route = route;
  place = place;
  down = down;
}

-- what is known of it with these facts, wherever it is
abbrev pub on_route_of : Targets → ℕ → PacketFacts → Header → ℕ → Leg → List ℕ → ℕ → List ℕ → TravellingFlight
on_route_of targets i facts header ingress leg route place down = record {
  tunnel = tunnel_on targets i header ingress leg route place down;
  version = unwrap_or (option_map (λ decision. decision.version) facts.decision) 0;
  rule = unwrap_or (option_map (λ decision. decision.rule) facts.decision) None;
}

abbrev pub on_leg : Targets → ℕ → PacketFacts → Header → ℕ → Leg → TravellingFlight
on_leg targets i facts header ingress leg =
    on_route_of targets i facts header ingress leg facts.route facts.hops facts.found

pub known_by : (targets : Targets) (i : ℕ) (facts : PacketFacts) (header : Header) (ingress : ℕ)
    (leg : Leg) → facts.travels ≡ true → facts.header ≡ Some header
    → facts.ingress ≡ Some ingress → facts.leg ≡ Some leg
    → flight_by targets i facts ≡ Some (on_leg targets i facts header ingress leg)
known_by targets i facts header ingress leg on its came takes = rw (on, its, came, takes) refl

travels_by : (targets : Targets) (i : ℕ) (facts : PacketFacts) (t : TravellingFlight)
    → flight_by targets i facts ≡ Some t → facts.travels ≡ true
travels_by targets i facts t is = by_case facts.travels _ t is where
  by_case : (b : Bool) (x t : TravellingFlight) → (if b then Some x else None) ≡ Some t → b ≡ true
  by_case true x t is = refl
  by_case false x t is = absurd cc

pub got : (xs : List ℕ) (k x : ℕ) → slice_get xs k ≡ Some x → get_or xs k 0 ≡ x
got xs k x is = let within : k < length xs = slice_get_within xs k x is in
    some_same (slice_get xs k) (get_or xs k 0) x (slice_get-get_or xs k 0 within) is

-- a packet at a place of its route, at a switch that serves
pub record Stands (setting : Setting) (journal : List Item) (i s : ℕ) (header : Header)
    (ingress : ℕ) (leg : Leg) : Type 0 where
  pub knows : Known setting journal
  pub on : (packet_facts_of journal i).travels ≡ true
  pub entered : (packet_facts_of journal i).header ≡ Some header
  pub came : (packet_facts_of journal i).ingress ≡ Some ingress
  pub stands : (packet_facts_of journal i).stands ≡ Some s
  pub takes : (packet_facts_of journal i).leg ≡ Some leg
  pub at_first : ingress < length setting.net.switches
  pub there : s < length setting.net.switches
  pub serving : IsTrue (serves journal s)
  pub sound : IsHeader header
  pub on_leg : IsPacketOnLeg setting journal (packet_facts_of journal i) header leg
  pub here : slice_get (packet_facts_of journal i).route (packet_facts_of journal i).hops ≡ Some s

-- a packet of the table, as the journal says
pub record IsStanding (setting : Setting) (journal : List Item) (i : ℕ) (t : TravellingFlight) : Type 0
  where
    pub switch : ℕ
    pub header : Header
    pub ingress : ℕ
    pub leg : Leg
    pub stands : Stands setting journal i switch header ingress leg
    pub is : t ≡ on_leg (journal_leg_targets setting journal) i (packet_facts_of journal i) header ingress leg

serves_here : (setting : Setting) (journal : List Item) (i s : ℕ) → IsPacketServed journal i
    → (packet_facts_of journal i).stands ≡ Some s → IsTrue (serves journal s)
unfolding packet_facts_of
serves_here setting journal i s served stands =
    rw (sym (some_same (packet_facts_of journal i).stands served.switch s served.stands stands))
    served.serving

pub standing_by : (setting : Setting) (journal : List Item) (i : ℕ) (t : TravellingFlight)
    → Known setting journal
    → flight_by (journal_leg_targets setting journal) i (packet_facts_of journal i) ≡ Some t
    → IsStanding setting journal i t
standing_by setting journal i t knows by =
    let facts : PacketFacts = packet_facts_of journal i in
    let targets : Targets = journal_leg_targets setting journal in
    let on : facts.travels ≡ true = travels_by targets i facts t by in
    let travelling : Travels setting journal i = travels_known setting journal i knows on in
    let way : IsPacketOnWay setting journal facts = travelling.way in record {
      switch = way.under_way.switch;
      header = way.under_way.header;
      ingress = way.under_way.ingress;
      leg = way.leg;
      stands = record {
        knows = knows;
        on = on;
        entered = way.under_way.entered;
        came = way.under_way.came;
        stands = way.under_way.stands;
        takes = way.takes;
        at_first = way.under_way.at_first;
        there = way.under_way.now;
        serving = serves_here setting journal i way.under_way.switch travelling.served
            way.under_way.stands;
        sound = way.under_way.sound;
        on_leg = way.on_leg;
        here = way.stands;
      };
      is = some_same (flight_by targets i facts) t
          (on_leg targets i facts way.under_way.header way.under_way.ingress way.leg) by
          (known_by targets i facts way.under_way.header way.under_way.ingress way.leg on
          way.under_way.entered way.under_way.came way.takes);
    }
