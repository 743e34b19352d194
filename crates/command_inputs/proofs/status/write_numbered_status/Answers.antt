use Rattle.std.proofs.Common.{◌∙◌, ◌≡◌, decimal}
use Rattle.command_inputs.proofs.status.write_numbered_status.Goals as goal

pub returns : goal.returns
returns g c =
    let number : c.as_bytes-number.result.now ≡ decimal c.args.number =
    c.as_bytes-number.ensures.value ∙ c.format.ensures.text in
    rw number at c.write_pieces.ensures
