-- What a journal says of a packet on its way: where it is, and what is known of it.
use Rattle.std.specs.Prelude.{if◌then◌else◌, List, None, Option, Some, option_map, unwrap_or, ℕ}
use Rattle.update_machine.specs.Exports.{Exit, Item, Leg, Setting, journal_decision_of, journal_found_down, journal_packet_header_at, journal_ingress_of, journal_leg_of, journal_route_in, journal_route_place, journal_leg_targets, travels_in_journal}
use Rattle.travelling.specs.Travelling.{TravellingFlight}
use Rattle.tunnel.specs.Exports.{TunnelValue}

-- its leg; the exit by port 0 if it has none
abbrev pub refined_own_leg : List Item → ℕ → Leg
refined_own_leg journal i = unwrap_or (journal_leg_of journal i) (Exit 0)

abbrev pub refined_tunnel_of : Setting → List Item → ℕ → TunnelValue
refined_tunnel_of setting journal i = record {
  packet = i;
  header = journal_packet_header_at journal i;
  ingress = unwrap_or (journal_ingress_of journal i) 0;
  leg = refined_own_leg journal i;
  targets = journal_leg_targets setting journal (refined_own_leg journal i);
  route = journal_route_in journal i;
  place = journal_route_place journal i;
  down = journal_found_down journal i;
}

-- what the journal says of a packet on its way: its tunnel, and the version and the rule of its
-- decision, 0 and none before it
unfoldable pub refined_flight_of : Setting → List Item → ℕ → TravellingFlight
refined_flight_of setting journal i = record {
  tunnel = refined_tunnel_of setting journal i;
  version = unwrap_or (option_map (λ decision. decision.version) (journal_decision_of journal i)) 0;
  rule = unwrap_or (option_map (λ decision. decision.rule) (journal_decision_of journal i)) None;
}

unfoldable pub refined_flight_in : Setting → List Item → ℕ → Option TravellingFlight
refined_flight_in setting journal i = if travels_in_journal journal i then Some (refined_flight_of setting journal i) else None
