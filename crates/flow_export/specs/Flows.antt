-- The flows of a list of leavings: which headers it has, and how many packets had each.
use Rattle.std.specs.Prelude.{[], ◌∷◌, ◌≡◌, List, count_by, filter, length, map, nat_le, not, ℕ}
use Rattle.five_tuple.specs.Exports.{header_eq}
use Rattle.five_tuple.specs.declared.header.Header.{Header}
use Rattle.meters.specs.Exports.{SeenMeter}
use Rattle.meters.specs.declared.flows.FlowRecord.{FlowRecord}
use Rattle.policy_rules.specs.declared.packet.Leaving.{Leaving}

-- the different headers, in the order in which they first left
abbrev pub exported_flow_headers_of : List Leaving → List Header
exported_flow_headers_of [] = []
exported_flow_headers_of (one ∷ more) =
    one.header ∷ filter (λ header. not (header_eq one.header header)) (exported_flow_headers_of more)

-- how many packets had the header
abbrev pub flow_packets_of : List Leaving → Header → ℕ
flow_packets_of held header = count_by (λ one. header_eq one.header header) held

-- a record for each different header
abbrev pub flows : ℕ → List Leaving → List FlowRecord
flows port held =
    map (λ header. record { port = port; header = header; packets = flow_packets_of held header })
    (exported_flow_headers_of held)

-- what a flow meter has recorded at its port, and with how many headers it is complete
pub record FlowMeterValue : Type 0 where
  pub port : ℕ
  pub held : List Leaving
  pub most : ℕ

-- the meter is a flow meter, whatever its list is: the records of a list are its flows, and a list
-- of this many different headers or more is complete
pub record IsFlowMeter (port most : ℕ) (meter : SeenMeter) : Type 0 where
  pub at_port : meter.port ≡ port
  pub recorded : (held : List Leaving) → meter.recorded held ≡ flows port held
  pub is_ended : (held : List Leaving)
      → meter.is_ended held ≡ nat_le most (length (exported_flow_headers_of held))
