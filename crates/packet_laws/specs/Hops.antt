-- How many routes a packet takes, and how many hops while it travels.
use Rattle.std.specs.Prelude.{if◌then◌else◌, ◌&&◌, ◌+◌, ◌==◌, Bool, List, false, ℕ}
use Rattle.update_machine.specs.Exports.{Hop, Item, machine_count_of, journal_folded_value, travels_in_journal}
use Rattle.journal.specs.declared.item.Item.TheVariants as item

-- ---- hops

abbrev pub changes_packet_hops_taken : ℕ → List Item → ℕ → Item → ℕ
changes_packet_hops_taken i before taken (item.Row row (Hop packet)) =
    if packet == i && travels_in_journal before i then taken + 1 else taken
changes_packet_hops_taken i before taken _ = taken

-- the hop steps of the packet while it travelled, also those in which it arrived or got stuck
unfoldable pub packet_hops_taken : List Item → ℕ → ℕ
packet_hops_taken journal i = journal_folded_value (changes_packet_hops_taken i) 0 journal

-- ---- routes

abbrev pub is_packet_search : ℕ → Item → Bool
is_packet_search i (item.Seeking packet version partition route) = packet == i
is_packet_search i _ = false

-- its routes to an authority switch, one for each lookup that found no own rule
unfoldable pub packet_search_count : List Item → ℕ → ℕ
packet_search_count journal i = machine_count_of (is_packet_search i) journal

abbrev pub is_packet_exit : ℕ → Item → Bool
is_packet_exit i (item.Exiting packet route) = packet == i
is_packet_exit i _ = false

-- its routes to the switch of its port
unfoldable pub packet_exit_count : List Item → ℕ → ℕ
packet_exit_count journal i = machine_count_of (is_packet_exit i) journal

abbrev pub is_packet_detour : ℕ → Item → Bool
is_packet_detour i (item.Rerouted packet route) = packet == i
is_packet_detour i _ = false

-- its routes around links that it found down
unfoldable pub packet_detour_count : List Item → ℕ → ℕ
packet_detour_count journal i = machine_count_of (is_packet_detour i) journal

abbrev pub packet_routes_taken : List Item → ℕ → ℕ
packet_routes_taken journal i = packet_search_count journal i + packet_exit_count journal i + packet_detour_count journal i

-- the most switches of a route, and so the most hops on it, counting its arrival
abbrev pub most_packet_route_switches : ℕ
most_packet_route_switches = 64

-- the most hops of a packet: 64 on each of its routes, which are at most 64 to authorities, one to
-- its port and 256 around links
abbrev pub most_packet_hops : ℕ
most_packet_hops = 20544
