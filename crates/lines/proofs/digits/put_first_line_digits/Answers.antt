use Rattle.lines.proofs.LineShortNumbers.{decimal_two}
use Rattle.lines.proofs.digits.put_first_line_digits.Goals as goal

pub returns-else-n-lt10-clause-held : goal.returns-else-n-lt10-clause-held
returns-else-n-lt10-clause-held c =
    rw (decimal_two c.args.n c.if-n-lt10.false c.requires.short) c.put_digit_pair.ensures
