use Rattle.std.proofs.Common.{◌+◌, arith}
use Rattle.std.proofs.lemmas.Fmt.{decimal_digit}
use Rattle.std.proofs.lemmas.List.{take_more_set}
use Rattle.lines.proofs.digits.put_line_digit.Goals as goal

pub returns-clause-held : goal.returns-clause-held
returns-clause-held c = rw (decimal_digit c.args.n c.requires.short)
    (take_more_set c.args.bytes.now c.args.len (48 + c.args.n) (omega arith))
