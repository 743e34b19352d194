use Rattle.std.proofs.Common.{arith, refl}
use Rattle.ternary.proofs.TernaryWords.{any_holds}
use Rattle.ternary.proofs.TernaryFreeBits.{any_unfixed}
use Rattle.ternary.proofs.laws.any_laws.Goals as goal

pub returns : goal.returns
returns c = record {
  word = record { within = refl; bounded = omega arith };
  holds = any_holds;
  no_fixed_bit = any_unfixed;
}
