use Rattle.ternary.proofs.TernaryHexDigits.{hex_halves}
use Rattle.ternary.proofs.word.HexDisplay.fmt.Goals as goal

pub returns-clause-writes : goal.returns-clause-writes
returns-clause-writes g c =
    let halves = hex_halves c.args.self.now.number c.from.result c.args.self.now.bound
    c.from.ensures in
    rw (c.laid_out.ensures, c.laid_out-2.ensures, c.in_radix.ensures, c.in_radix-2.ensures, halves)
    at c.write.ensures.writes
