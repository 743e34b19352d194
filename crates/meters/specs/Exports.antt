-- The definitions of this crate that others use, passed on from the files that define them.
pub use Rattle.meters.specs.Gone.{MeterBoardValue, meter_board_after, meters_gone_after, gone_meter_records, meter_leaves_with, meter_leaving_records, seen_meter_board}
pub use Rattle.meters.specs.Meters.{IsMeterNoted, MeterPortLeavings, meter_flow_records_of, meter_has_ended, is_meter_ended_within, kept_meters, meter_port_leavings, meter_with_leavings}
unfoldable pub use Rattle.meters.specs.Meters.{meters_after}
pub use Rattle.meters.specs.Seen.{SeenMeter}
