use Rattle.std.proofs.Common.{◌∙◌, map}
use Rattle.base.proofs.Exports.{err_from_is_err_and}
use Rattle.difane_cli.specs.Exports.{program_meter_lines, program_quiet_line}
use Rattle.difane_cli.proofs.ProgramMeterLines.{none_left, none_right}
use Rattle.shelf.proofs.SinkGains.{both_written, first_part}
use Rattle.difane_cli.proofs.playing.write_program_last_lines.Goals as goal

pub returns-clause-after : goal.returns-clause-after
returns-clause-after g c = both_written (g.K.Sink.state c.args.out.now)
    (g.K.Sink.state c.write_program_meters.new.out) (g.K.Sink.state c.write_network_verdict.new.out)
    (program_meter_lines (map g.M.Meter.seen c.args.meters.now)) (program_quiet_line c.args.answer)
    g.K.Sink.takes_memory c.write_network_verdict.result c.in_ok-write_program_meters.ensures.after.whole
    (c.in_ok-write_program_meters.ensures.after.calm (λ is. absurd (cc is))) c.write_network_verdict.ensures.after

pub returns-in_err-write_program_meters-clause-after : goal.returns-in_err-write_program_meters-clause-after
returns-in_err-write_program_meters-clause-after g c =
    let given = err_from_is_err_and c.from_residual.result c.from_residual.ensures.1 in
    rw (given.1, given.2) (
    first_part (g.K.Sink.state c.args.out.now) (g.K.Sink.state c.write_program_meters.new.out)
    (program_meter_lines (map g.M.Meter.seen c.args.meters.now)) (program_quiet_line c.args.answer)
    g.K.Sink.takes_memory _ c.in_err-write_program_meters.ensures.after)

pub returns-clause-no_lines : goal.returns-clause-no_lines
returns-clause-no_lines g c = λ none.
    let lines = program_meter_lines (map g.M.Meter.seen c.args.meters.now) in
    c.write_network_verdict.ensures.no_line (none_right lines (program_quiet_line c.args.answer) none)
    ∙ c.in_ok-write_program_meters.ensures.no_lines (none_left lines (program_quiet_line c.args.answer) none)

pub returns-in_err-write_program_meters-clause-no_lines : goal.returns-in_err-write_program_meters-clause-no_lines
returns-in_err-write_program_meters-clause-no_lines g c = λ none.
    let lines = program_meter_lines (map g.M.Meter.seen c.args.meters.now) in
    c.in_err-write_program_meters.ensures.no_lines (none_left lines (program_quiet_line c.args.answer) none)
