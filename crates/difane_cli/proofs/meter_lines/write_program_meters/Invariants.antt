use Rattle.std.proofs.Common.{[], ◌≡◌, flat_map, map, take}
use Rattle.shelf.specs.Exports.{sink_with_gained}
use Rattle.difane_cli.specs.Exports.{program_meter_line, program_meter_lines}
use Rattle.difane_cli.proofs.meter_lines.write_program_meters.Given as goal

abbrev pub invariant-loop-meter : goal.invariant-loop-meter
invariant-loop-meter g l = record {
  written : (g.K.Sink.state l.out).bytes ≡ sink_with_gained (g.K.Sink.state l.fn.out).bytes
      (flat_map (λ meter. program_meter_line (g.M.Meter.seen meter)) (take l.meter-index l.meters));
  untouched : program_meter_lines (map g.M.Meter.seen l.meters) ≡ [] → l.out ≡ l.fn.out;
  faults : (g.K.Sink.state l.out).faults ≡ (g.K.Sink.state l.fn.out).faults;
}
