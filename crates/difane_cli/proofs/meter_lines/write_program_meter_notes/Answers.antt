use Rattle.std.proofs.Common.{◌∙◌, ◌≡◌, decimal}
use Rattle.difane_cli.proofs.meter_lines.write_program_meter_notes.Goals as goal

pub returns : goal.returns
returns g c =
    let port : c.as_bytes-port.result.now ≡ decimal c.args.port = c.as_bytes-port.ensures.value
    ∙ c.format.ensures.text in
    let notes : c.as_bytes-notes.result.now ≡ decimal c.args.notes = c.as_bytes-notes.ensures.value
    ∙ c.format-2.ensures.text in
    rw (port, notes) at c.write_pieces.ensures
