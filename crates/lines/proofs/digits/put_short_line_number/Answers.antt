use Rattle.std.proofs.Common.{◌+◌, ◌≡◌, append_assoc, arith}
use Rattle.lines.proofs.LineShortNumbers.{decimal_pair, decimal_pairs}
use Rattle.lines.proofs.digits.put_short_line_number.Goals as goal

pub returns-then-n-lt10000-clause-held : goal.returns-then-n-lt10000-clause-held
returns-then-n-lt10000-clause-held c = rw (
  c.put_digit_pair.ensures,
  c.put_first_line_digits-end.ensures.held,
  decimal_pair c.args.n c.if-n-lt100.false c.requires.short,
  append_assoc,
)

pub returns-else-n-lt10000-clause-held : goal.returns-else-n-lt10000-clause-held
returns-else-n-lt10000-clause-held c =
    let end = c.put_first_line_digits-end-else-n-lt10000.result in
    let four : end + 4 ≡ end + 2 + 2 = omega arith in
    rw (
      four,
      c.put_digit_pair-else-n-lt10000-2.ensures,
      c.put_digit_pair-else-n-lt10000.ensures,
      c.put_first_line_digits-end-else-n-lt10000.ensures.held,
      decimal_pairs c.args.n c.if-n-lt10000.false c.requires.short,
      append_assoc,
      append_assoc,
    )
