use Rattle.std.proofs.Common.{◌∙◌, ◌≡◌, ◌≢◌, List, ap, length, rules, subst, sym, ℕ}
use Rattle.shelf.specs.Exports.{IsSinkAfterWrite}
use Rattle.difane_cli.specs.Exports.{program_meter_line, program_notes_line}
use Rattle.difane_cli.proofs.ProgramMeterLines.{line_some}
use Rattle.difane_cli.proofs.meter_lines.write_program_meter_line.Goals as goal

pub returns-in-true-clause-after : goal.returns-in-true-clause-after
returns-in-true-clause-after g c =
    let meter = g.M.Meter.seen c.args.meter.now in
    let some : length meter.held ≢ 0 = search rules in
    let line : program_notes_line c.port.result c.notes-notes.result ≡ program_meter_line meter =
    ap (λ (port : ℕ). program_notes_line port c.notes-notes.result) c.port.ensures
    ∙ ap (program_notes_line meter.port) c.notes-notes.ensures
    ∙ sym (line_some meter.port meter.held some) in
    subst (λ (bytes : List ℕ). IsSinkAfterWrite bytes g.K.Sink.takes_memory
    (g.K.Sink.state c.args.out.now) (g.K.Sink.state c.write_program_meter_notes.new.out) c.write_program_meter_notes.result)
    line c.write_program_meter_notes.ensures
