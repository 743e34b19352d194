-- The counts of a flow meter, as its map stores them.
use Rattle.std.specs.Prelude.{List, map, unwrap_or, ℕ}
use Rattle.base.specs.Exports.{lookup}
use Rattle.five_tuple.specs.Exports.{header_eq}
use Rattle.five_tuple.specs.declared.header.Header.{Header}
use Rattle.policy_rules.specs.declared.packet.Leaving.{Leaving}
use Rattle.flow_export.specs.Flows.{exported_flow_headers_of, flow_packets_of}

-- each header with how many packets had it, in the order in which they first left
abbrev pub flow_packet_counts : List Leaving → List (Header × ℕ)
flow_packet_counts held = map (λ header. (header, flow_packets_of held header)) (exported_flow_headers_of held)

-- the count of a header, or 0 if it has none
abbrev pub flow_count_of_header : Header → List (Header × ℕ) → ℕ
flow_count_of_header header counts = unwrap_or (lookup (header_eq header) counts) 0
