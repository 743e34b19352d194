use Rattle.std.proofs.Common.{◌%◌, ◌++◌, ◌+◌, ◌-◌, ◌∙◌, ◌≡◌, ap, arith, drop, length-set, sym}
use Rattle.ternary.specs.Exports.{word_hex_digits}
use Rattle.lines.proofs.LineHexPairs.{pairs_at, two_more}
use Rattle.lines.proofs.rules.hex_digits_of.Goals as goal

pub loop-at-preserved : goal.loop-at-preserved
loop-at-preserved c =
    let at = c.loop-at.at - 2 in
    let left = c.loop-at.left in
    let back : c.loop-at.at ≡ at + 2 = omega (arith, c.loop-at.invariant.even) in
    let pair = pairs_at (left % 256) (omega arith) in record {
      digits = rw (pair.0, pair.1) (c.loop-at.invariant.digits
          ∙ ap (λ n. word_hex_digits n left ++ drop n c.loop-at.digits) back
          ∙ two_more at left c.loop-at.digits
          (omega (arith, c.loop-at.invariant.many, c.loop-at.invariant.small)));
      many = grind (arith, length-set, c.loop-at.invariant.many);
      small = omega arith;
      even = omega (arith, c.loop-at.invariant.even);
    }

pub returns : goal.returns
unfolding word_hex_digits
returns c = let none : c.loop-at.at ≡ 0 = omega arith in
    sym (c.loop-at.invariant.digits
    ∙ ap (λ n. word_hex_digits n c.loop-at.left ++ drop n c.loop-at.digits) none)
