use Rattle.ternary.proofs.TernaryWords.{holds_decides, holds_value, value_below, same_headers, word_eq_decides}
use Rattle.ternary.proofs.laws.holds_laws.Goals as goal

pub returns : goal.returns
returns c = record {
  bitwise = holds_decides;
  value = holds_value;
  bound = value_below;
  equal = word_eq_decides;
  same = same_headers;
}
