use Rattle.std.proofs.Common.{◌%◌, ◌++◌, ◌≡◌, ◌≤◌, drop, length}
use Rattle.ternary.specs.Exports.{word_hex_digits}
use Rattle.lines.proofs.rules.hex_digits_of.Given as goal

-- the last digits stand, and the first ones are those of what is left
abbrev pub invariant-loop-at : goal.invariant-loop-at
invariant-loop-at l = record {
  digits : word_hex_digits 26 l.number ≡ word_hex_digits l.at l.left ++ drop l.at l.digits;
  many : length l.digits ≡ 26;
  small : l.at ≤ 26;
  even : l.at % 2 ≡ 0;
}

abbrev pub decreases-loop-at : goal.decreases-loop-at
decreases-loop-at l = l.at
