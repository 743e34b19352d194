use Rattle.std.proofs.Common.{◌%◌, ◌+◌, ◌/◌, arith}
use Rattle.lines.proofs.LineShortNumbers.{pairs_at, take_two_set}
use Rattle.lines.proofs.digits.put_digit_pair.Goals as goal

pub returns : goal.returns
returns c =
    let digits = pairs_at c.args.pair c.requires.pair in
    let bytes = c.args.bytes.now in
    rw (digits.0, digits.1) (take_two_set bytes c.args.len (48 + c.args.pair / 10)
    (48 + c.args.pair % 10) (omega arith))
