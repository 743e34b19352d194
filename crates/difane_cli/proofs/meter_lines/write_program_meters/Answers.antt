use Rattle.std.proofs.Common.{◌∙◌, ◌≡◌, ap, arith, drop, flat_map, get_or, suc, sym, take, take_all}
use Rattle.base.proofs.Exports.{err_from_is_err_and, flat_map-one, flat_map-there, middle_none}
use Rattle.shelf.specs.Exports.{gained-gained, sink_with_gained}
use Rattle.difane_cli.specs.Exports.{program_meter_line}
use Rattle.difane_cli.proofs.ProgramMeterLines.{lines_of}
use Rattle.shelf.proofs.SinkGains.{piece_cut}
use Rattle.difane_cli.proofs.meter_lines.write_program_meters.Goals as goal

pub loop-meter-preserved : goal.loop-meter-preserved
loop-meter-preserved g c =
    let meters = c.args.meters.now in
    let i = c.loop-meter.meter-index in
    let item = c.meter-item.result in
    let own : get_or meters i item ≡ item = sym c.meter-item.is in
    let line = λ (meter : g.row.M.Denot). program_meter_line (g.M.Meter.seen meter) in
    let before = (g.K.Sink.state c.args.out.now).bytes in
    let so_far = c.loop-meter.invariant in record {
      written = c.in_ok-write_program_meter_line.ensures.after.whole
          ∙ ap (λ bytes. sink_with_gained bytes (line item)) so_far.written
          ∙ gained-gained before (flat_map line (take i meters)) _
          ∙ ap (sink_with_gained before) (flat_map-one line meters i item c.loop-meter-test.true own);
      untouched = λ none. c.in_ok-write_program_meter_line.ensures.no_line
          (middle_none (flat_map line (take i meters)) _ (flat_map line (drop (suc i) meters))
          (flat_map-there line meters i item c.loop-meter-test.true own
          ∙ lines_of g.M.Meter.seen meters ∙ none)) ∙ so_far.untouched none;
      faults = c.in_ok-write_program_meter_line.ensures.after.calm (λ is. absurd (cc is)) ∙ so_far.faults;
    }

pub returns-clause-after : goal.returns-clause-after
returns-clause-after g c =
    let meters = c.args.meters.now in
    let i = c.loop-meter.meter-index in
    let line = λ (meter : g.row.M.Denot). program_meter_line (g.M.Meter.seen meter) in
    let before = (g.K.Sink.state c.args.out.now).bytes in record {
      whole = c.loop-meter.invariant.written ∙ ap (sink_with_gained before)
          (ap (flat_map line) (take_all i meters (omega (arith, c.loop-meter-test.false)))
          ∙ lines_of g.M.Meter.seen meters);
      part = tt;
      faults = omega (arith, c.loop-meter.invariant.faults);
      calm = λ not. c.loop-meter.invariant.faults;
      failed = λ is. absurd (cc is);
      no_memory = λ is. absurd (cc is);
    }

pub returns-in_err-write_program_meter_line-clause-after : goal.returns-in_err-write_program_meter_line-clause-after
returns-in_err-write_program_meter_line-clause-after g c =
    let meters = c.args.meters.now in
    let i = c.loop-meter.meter-index in
    let item = c.meter-item.result in
    let line = λ (meter : g.row.M.Denot). program_meter_line (g.M.Meter.seen meter) in
    let given = err_from_is_err_and c.from_residual.result c.from_residual.ensures.1 in
    rw (given.1, given.2) (piece_cut (g.K.Sink.state c.args.out.now) (g.K.Sink.state c.loop-meter.out)
    (g.K.Sink.state c.write_program_meter_line.new.out) (flat_map line (take i meters)) _
    (flat_map line (drop (suc i) meters)) _ g.K.Sink.takes_memory _
    c.loop-meter.invariant.written c.loop-meter.invariant.faults c.in_err-write_program_meter_line.ensures.after
    (flat_map-there line meters i item c.loop-meter-test.true (sym c.meter-item.is)
    ∙ lines_of g.M.Meter.seen meters))

pub returns-in_err-write_program_meter_line-clause-no_lines : goal.returns-in_err-write_program_meter_line-clause-no_lines
returns-in_err-write_program_meter_line-clause-no_lines g c = λ none. let meters = c.args.meters.now in
    let i = c.loop-meter.meter-index in
    let item = c.meter-item.result in
    let own : get_or meters i item ≡ item = sym c.meter-item.is in
    let line = λ (meter : g.row.M.Denot). program_meter_line (g.M.Meter.seen meter) in
    c.in_err-write_program_meter_line.ensures.no_line
    (middle_none (flat_map line (take i meters)) _ (flat_map line (drop (suc i) meters))
    (flat_map-there line meters i item c.loop-meter-test.true own ∙ lines_of g.M.Meter.seen meters ∙ none))
    ∙ c.loop-meter.invariant.untouched none
