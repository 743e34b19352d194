use Rattle.std.proofs.Common.{◌∙◌, ◌≡◌, decimal}
use Rattle.command_inputs.proofs.status.write_input_line.Goals as goal

pub returns : goal.returns
returns g c =
    let name : c.as_bytes-name.result.now ≡ c.args.file.now = c.as_bytes-name.ensures.value
    ∙ c.as_str.ensures in
    let code : c.as_bytes-code.result.now ≡ decimal c.args.code = c.as_bytes-code.ensures.value
    ∙ c.format.ensures.text in
    let row : c.as_bytes-row.result.now ≡ decimal c.args.row = c.as_bytes-row.ensures.value
    ∙ c.format-2.ensures.text in
    rw (name, code, row) at c.write_pieces.ensures
