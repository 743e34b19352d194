-- How many hops a drain may still take.
use Rattle.std.specs.Prelude.{◌-◌, List, sum_by, ℕ}
use Rattle.update_machine.specs.Exports.{Item, journal_packets}
use Rattle.packet_laws.specs.Hops.{packet_hops_taken, most_packet_hops}

-- the most hops that the packet may still take
abbrev pub packet_hops_left : List Item → ℕ → ℕ
packet_hops_left journal i = most_packet_hops - packet_hops_taken journal i

-- the most hops that all packets of the journal together may still take
unfoldable pub packet_drain_left : List Item → ℕ
packet_drain_left journal = sum_by (packet_hops_left journal) (journal_packets journal)
