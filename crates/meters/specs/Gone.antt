-- The flow records of the meters that left, and what contracts see of a board.
use Rattle.std.specs.Prelude.{[], if◌then◌else◌, ◌&&◌, ◌++◌, ◌==◌, ◌∷◌, ◌≡◌, Bool, List, filter, flat_map, map, ℕ}
use Rattle.base.specs.Exports.{has}
use Rattle.policy_rules.specs.declared.packet.Leaving.{Leaving}
use Rattle.meters.specs.Meters.{MeterPortLeavings, meter_has_ended, kept_meters, meter_with_leavings, meters_after, meter_flow_records_of}
use Rattle.meters.specs.Seen.{SeenMeter}
use Rattle.meters.specs.declared.flows.FlowRecord.{FlowRecord}

-- the meter leaves with this leaving, which is by the meter's port and completes its list
abbrev pub meter_leaves_with : ℕ × Leaving → SeenMeter → Bool
meter_leaves_with one meter = (one.0 == meter.port) && meter_has_ended (meter_with_leavings (one.1 ∷ []) meter)

-- the records of a meter that leaves with this leaving, for the list that it then has
abbrev pub meter_leaving_records : ℕ × Leaving → SeenMeter → List FlowRecord
meter_leaving_records one meter =
    if meter_leaves_with one meter then meter_flow_records_of (meter_with_leavings (one.1 ∷ []) meter) else []

-- the records of the meters that leave while packets leave, leaving by leaving and meter by meter
abbrev pub meters_gone_after : MeterPortLeavings → List SeenMeter → List FlowRecord
meters_gone_after [] meters = []
meters_gone_after (one ∷ left) meters =
    flat_map (meter_leaving_records one) meters ++ meters_gone_after left (meters_after (one ∷ []) meters)

-- the records of the meters that leave in a network with these ports
abbrev pub gone_meter_records : ℕ → MeterPortLeavings → List SeenMeter → List FlowRecord
gone_meter_records ports left meters = meters_gone_after left (filter (λ meter. has ports meter.port) meters)

-- the meters on a board, in order, and the records of those that left it
pub record MeterBoardValue (M : Type 0) : Type 0 where
  pub meters : List M
  pub gone : List FlowRecord

abbrev pub seen_meter_board : {M : Type 0} → (M → SeenMeter) → MeterBoardValue M → MeterBoardValue SeenMeter
seen_meter_board seen board = record { meters = map seen board.meters; gone = board.gone }

-- the board of a network with these ports, after these leavings
abbrev pub meter_board_after : ℕ → MeterPortLeavings → List SeenMeter → MeterBoardValue SeenMeter
meter_board_after ports left meters = record {
  meters = kept_meters ports left meters;
  gone = gone_meter_records ports left meters;
}

-- if the old board is one after some leavings, the new one is that after one more
abbrev pub MeterBoardGainsLeaving : ℕ × Leaving → MeterBoardValue SeenMeter → MeterBoardValue SeenMeter → Type 0
MeterBoardGainsLeaving one old new =
    (ports : ℕ) (left : MeterPortLeavings) (meters : List SeenMeter) → old ≡ meter_board_after ports left meters
    → new ≡ meter_board_after ports (left ++ one ∷ []) meters
