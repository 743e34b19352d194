use Rattle.ternary.proofs.TernaryWords.{exact_holds, exact_is_word}
use Rattle.ternary.proofs.TernaryFreeBits.{exact_fixed}
use Rattle.ternary.proofs.laws.ternary_exact_laws.Goals as goal

pub returns : goal.returns
returns c = record { word = exact_is_word; holds = exact_holds; no_free_bit = exact_fixed }
