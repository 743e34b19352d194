-- How many routes a packet takes at most, how many hops on its last one, and how often it finds a
-- link down. The bounds are our own.
use Rattle.std.specs.Prelude.{if◌then◌else◌, ◌&&◌, ◌+◌, ◌==◌, Bool, List, false, ℕ}
use Rattle.update_machine.specs.Exports.{Hop, Item, machine_count_of, journal_folded_value, travels_in_journal}
use Rattle.journal.specs.declared.item.Item.TheVariants as item

-- one for each of 64 versions, one to its port, and one around each of 256 links
abbrev pub most_packet_routes : ℕ
most_packet_routes = 64 + 1 + 256

-- ---- hops on one route

abbrev pub changes_packet_route_hops : ℕ → List Item → ℕ → Item → ℕ
changes_packet_route_hops i before hops (item.Row row (Hop packet)) =
    if packet == i && travels_in_journal before i then hops + 1 else hops
changes_packet_route_hops i before hops (item.Seeking packet version partition route) =
    if packet == i then 0 else hops
changes_packet_route_hops i before hops (item.Exiting packet route) = if packet == i then 0 else hops
changes_packet_route_hops i before hops (item.Rerouted packet route) = if packet == i then 0 else hops
changes_packet_route_hops i before hops _ = hops

-- the hop steps of the packet, while it travelled, since it took its last route
unfoldable pub packet_route_hops : List Item → ℕ → ℕ
packet_route_hops journal i = journal_folded_value (changes_packet_route_hops i) 0 journal

-- ---- links found down

abbrev pub is_packet_finding_down : ℕ → Item → Bool
is_packet_finding_down i (item.FoundDown packet one two) = packet == i
is_packet_finding_down i _ = false

-- how often it found a link down
unfoldable pub packet_finding_count : List Item → ℕ → ℕ
packet_finding_count journal i = machine_count_of (is_packet_finding_down i) journal
