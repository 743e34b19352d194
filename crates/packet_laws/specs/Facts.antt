-- All that a journal says about one packet, as one value, and how each item changes it.
use Rattle.std.specs.Prelude.{if◌then◌else◌, ◌+◌, ◌==◌, Bool, List, Option, Some, false, option_and_then, true, unwrap_or, ℕ}
use Rattle.failover.specs.Exports.{with_failover_link}
use Rattle.update_machine.specs.Exports.{Decision, Exit, Header, Item, Leg, Seek, journal_decision_of, journal_folded_value, journal_found_down, journal_packet_header, journal_ingress_of, journal_leg_of, machine_port_of_action, journal_retired_mark, journal_route_in, journal_route_place, journal_standing_of, travels_in_journal}
use Rattle.journal.specs.declared.item.Item.TheVariants as item

-- ---- the mark of a packet

abbrev pub changes_packet_entry_mark : ℕ → List Item → ℕ → Item → ℕ
changes_packet_entry_mark i before mark (item.Entered packet switch header) =
    if packet == i then journal_retired_mark before else mark
changes_packet_entry_mark i before mark _ = mark

-- the mark up to which versions were retired when the packet entered; 0 if it didn't enter
unfoldable pub packet_entry_mark : List Item → ℕ → ℕ
packet_entry_mark journal i = journal_folded_value (changes_packet_entry_mark i) 0 journal

-- ---- all that is known of it

pub record PacketFacts : Type 0 where
  pub header : Option Header
  pub ingress : Option ℕ
  pub stands : Option ℕ
  pub travels : Bool
  pub decision : Option Decision
  pub leg : Option Leg
  pub route : List ℕ
  pub hops : ℕ
  pub found : List ℕ
  pub mark : ℕ

unfoldable pub packet_facts_of : List Item → ℕ → PacketFacts
packet_facts_of journal i = record {
  header = journal_packet_header journal i;
  ingress = journal_ingress_of journal i;
  stands = journal_standing_of journal i;
  travels = travels_in_journal journal i;
  decision = journal_decision_of journal i;
  leg = journal_leg_of journal i;
  route = journal_route_in journal i;
  hops = journal_route_place journal i;
  found = journal_found_down journal i;
  mark = packet_entry_mark journal i;
}

-- the port by which a packet with this decision leaves; 0 if it has no decision or no port
abbrev pub packet_port_decided : Option Decision → ℕ
packet_port_decided decision = unwrap_or (option_and_then (λ d. machine_port_of_action d.action) decision) 0

-- what is known of the packet after an item that names it, when this is the retired mark
abbrev pub packet_facts_after : ℕ → Item → PacketFacts → PacketFacts
packet_facts_after mark (item.Entered packet switch header) facts = record facts {
  header = Some header;
  ingress = Some switch;
  stands = Some switch;
  travels = true;
  mark = mark;
}
packet_facts_after mark (item.Seeking packet version partition route) facts = record facts {
  leg = Some (Seek version partition);
  route = route;
  hops = 0;
}
packet_facts_after mark (item.Exiting packet route) facts = record facts {
  leg = Some (Exit (packet_port_decided facts.decision));
  route = route;
  hops = 0;
}
packet_facts_after mark (item.Rerouted packet route) facts = record facts { route = route; hops = 0 }
packet_facts_after mark (item.Hopped packet switch) facts =
    record facts { stands = Some switch; hops = facts.hops + 1 }
packet_facts_after mark (item.FoundDown packet one two) facts =
    record facts { found = with_failover_link facts.found one two }
packet_facts_after mark (item.Decided packet version rule action how) facts = record facts {
  decision = Some (record { version = version; rule = rule; action = action });
}
packet_facts_after mark (item.Left packet port leaving) facts = record facts { travels = false }
packet_facts_after mark (item.Dropped packet) facts = record facts { travels = false }
packet_facts_after mark (item.Lost packet) facts = record facts { travels = false }
packet_facts_after mark (item.Stuck packet switch cause leg down) facts = record facts { travels = false }
packet_facts_after mark _ facts = facts

-- the item names the packet
abbrev pub is_item_of_entered_packet : ℕ → Item → Bool
is_item_of_entered_packet i (item.Entered packet switch header) = packet == i
is_item_of_entered_packet i (item.Seeking packet version partition route) = packet == i
is_item_of_entered_packet i (item.Exiting packet route) = packet == i
is_item_of_entered_packet i (item.Rerouted packet route) = packet == i
is_item_of_entered_packet i (item.Hopped packet switch) = packet == i
is_item_of_entered_packet i (item.FoundDown packet one two) = packet == i
is_item_of_entered_packet i (item.Decided packet version rule action how) = packet == i
is_item_of_entered_packet i (item.Left packet port leaving) = packet == i
is_item_of_entered_packet i (item.Dropped packet) = packet == i
is_item_of_entered_packet i (item.Lost packet) = packet == i
is_item_of_entered_packet i (item.Stuck packet switch cause leg down) = packet == i
is_item_of_entered_packet i _ = false
