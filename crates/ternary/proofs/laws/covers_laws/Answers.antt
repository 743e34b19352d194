use Rattle.ternary.proofs.TernaryWords.{covers_decides, covers_held, covers_reflexive, covers_transitive, covers_antisymmetric, any_covers, covers_exact, covers_full}
use Rattle.ternary.proofs.laws.covers_laws.Goals as goal

pub returns : goal.returns
returns c = record {
  bitwise = covers_decides;
  held = covers_held;
  reflexive = covers_reflexive;
  transitive = covers_transitive;
  antisymmetric = covers_antisymmetric;
  any = any_covers;
  exact = covers_exact;
  no_free_bit = covers_full;
}
