use Rattle.std.proofs.Common.{◌++◌, ◌≡◌, flat_map, string_bytes, take}
use Rattle.flow_export.specs.Lines.{exported_flow_lines}
use Rattle.meters.specs.Exports.{meter_flow_records_of}
use Rattle.difane_cli.proofs.flow_lines.program_flow_text.Given as goal

abbrev pub invariant-loop-meter : goal.invariant-loop-meter
invariant-loop-meter g l = string_bytes l.text ≡ exported_flow_lines l.fn.gone
    ++ flat_map (λ meter. exported_flow_lines (meter_flow_records_of (g.M.Meter.seen meter))) (take l.meter-index l.meters)
