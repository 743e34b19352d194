-- What the records of flow meters count among the packets that left a network.
use Rattle.std.specs.Prelude.{[], ◌&&◌, ◌++◌, ◌==◌, ◌≡◌, All, List, count_by, flat_map, length, ℕ}
use Rattle.five_tuple.specs.Exports.{header_eq}
use Rattle.five_tuple.specs.declared.header.Header.{Header}
use Rattle.meters.specs.Exports.{MeterPortLeavings, SeenMeter, meter_flow_records_of, gone_meter_records, kept_meters}
use Rattle.meters.specs.declared.flows.FlowRecord.{FlowRecord}
use Rattle.flow_export.specs.Flows.{IsFlowMeter}

-- an empty flow meter that is complete with this many headers
pub record IsNewFlowMeter (most : ℕ) (meter : SeenMeter) : Type 0 where
  pub kind : IsFlowMeter meter.port most meter
  pub empty : meter.held ≡ []

-- how many packets left by the port with the header
abbrev pub flow_packet_count : MeterPortLeavings → ℕ → Header → ℕ
flow_packet_count left port header = count_by (λ one. (one.0 == port) && header_eq one.1.header header) left

-- the record counts all packets that left by its port with its header
abbrev pub IsFlowCounted : MeterPortLeavings → FlowRecord → Type 0
IsFlowCounted left flow = flow.packets ≡ flow_packet_count left flow.port flow.header

-- none of the meters in a network with these ports leaves
abbrev pub NoFlowMeterLeaves : ℕ → MeterPortLeavings → List SeenMeter → Type 0
NoFlowMeterLeaves ports left meters =
    length (kept_meters ports left meters) ≡ length (kept_meters ports [] meters)

-- each record of a meter that stays counts all these packets; if none leaves, each record does
pub record FlowMeterLaws : Type 0 where
  pub stayed : (most ports : ℕ) (left : MeterPortLeavings) (meters : List SeenMeter)
      → All (IsNewFlowMeter most) meters
      → All (IsFlowCounted left) (flat_map meter_flow_records_of (kept_meters ports left meters))
  pub counted : (most ports : ℕ) (left : MeterPortLeavings) (meters : List SeenMeter)
      → All (IsNewFlowMeter most) meters → NoFlowMeterLeaves ports left meters → All (IsFlowCounted left)
      (gone_meter_records ports left meters ++ flat_map meter_flow_records_of (kept_meters ports left meters))
