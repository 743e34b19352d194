use Rattle.std.proofs.Common.{arith, decimal, length-take, take}
use Rattle.lines.proofs.LineShortNumbers.{held_whole}
use Rattle.lines.proofs.line.Line.push_number.Goals as goal

pub returns-then-self-lt-LINE_BYTES : goal.returns-then-self-lt-LINE_BYTES
returns-then-self-lt-LINE_BYTES c =
    let end = c.put_line_digit-self-inside.result in
    let bytes = c.put_line_digit-self-inside.new.bytes in
    rw (← c.self.view_is)
    (held_whole (take c.self.inside.len c.self.inside.bytes) (decimal c.args.n) (take end bytes)
    (omega (arith, length-take end bytes)) c.put_line_digit-self-inside.ensures.held)
