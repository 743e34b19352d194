-- Meters: what contracts know of one, and which meters stay.
use Rattle.std.specs.Prelude.{[], ◌++◌, ◌==◌, ◌∷◌, ◌≡◌, Bool, List, false, filter, length, map, not, take, true, ℕ}
use Rattle.base.specs.Exports.{has, list_any, range_with_len}
use Rattle.policy_rules.specs.declared.packet.Leaving.{Leaving}
use Rattle.meters.specs.declared.flows.FlowRecord.{FlowRecord}
use Rattle.meters.specs.declared.meter.Stay.{Stay}
use Rattle.meters.specs.Seen.{SeenMeter}
use Rattle.meters.specs.declared.meter.Stay.TheVariants as stay

-- a port, and leavings that were recorded there
pub record MeterRecorded : Type 0 where
  pub port : ℕ
  pub held : List Leaving

-- a recorder that is complete when it has recorded this many leavings
pub record LimitedMeterRecorder : Type 0 where
  pub recorder : MeterRecorded
  pub most : ℕ

-- the meter with these leavings added
abbrev pub meter_with_leavings : List Leaving → SeenMeter → SeenMeter
meter_with_leavings more meter = record meter { held = meter.held ++ more }

-- its list is complete
abbrev pub meter_has_ended : SeenMeter → Bool
meter_has_ended meter = meter.is_ended meter.held

-- the flow records of its list
abbrev pub meter_flow_records_of : SeenMeter → List FlowRecord
meter_flow_records_of meter = meter.recorded meter.held

-- a meter after it recorded a leaving, by its result
abbrev pub IsMeterNoted : Leaving → SeenMeter → SeenMeter → Stay → Type 0
IsMeterNoted leaving old new stay.Stay = (new ≡ meter_with_leavings (leaving ∷ []) old) × (meter_has_ended new ≡ false)
IsMeterNoted leaving old new stay.Leave = (new ≡ meter_with_leavings (leaving ∷ []) old) × (meter_has_ended new ≡ true)
IsMeterNoted leaving old new stay.NoMemory = new ≡ old

-- leavings of all ports, in order, each with its port
abbrev pub MeterPortLeavings : Type 0
MeterPortLeavings = List (ℕ × Leaving)

-- the leavings of one port, in order
abbrev pub meter_port_leavings : ℕ → MeterPortLeavings → List Leaving
meter_port_leavings port left = map (λ one. one.1) (filter (λ one. one.0 == port) left)

-- its list, followed by the first k of these leavings, is complete for some k from 1
abbrev pub is_meter_ended_within : List Leaving → SeenMeter → Bool
is_meter_ended_within more meter =
    list_any (λ k. meter_has_ended (meter_with_leavings (take k more) meter)) (range_with_len 1 (length more))

-- the meters that stay while packets leave, in order, each with all leavings of its port
unfoldable pub meters_after : MeterPortLeavings → List SeenMeter → List SeenMeter
meters_after left meters =
    map (λ meter. meter_with_leavings (meter_port_leavings meter.port left) meter)
    (filter (λ meter. not (is_meter_ended_within (meter_port_leavings meter.port left) meter)) meters)

-- the meters that stay in a network with these ports
abbrev pub kept_meters : ℕ → MeterPortLeavings → List SeenMeter → List SeenMeter
kept_meters ports left meters = meters_after left (filter (λ meter. has ports meter.port) meters)
