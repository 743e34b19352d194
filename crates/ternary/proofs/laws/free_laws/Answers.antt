use Rattle.ternary.proofs.TernaryWords.{free_holds, free_wider, free_monotone, free_word, free_free, free_other}
use Rattle.ternary.proofs.TernaryFreedBits.{free_unfixed, free_fix, fix_free, meets_bit, covers_bit, meets_others, covers_others, meets_freed, covers_freed, freed_covered}
use Rattle.ternary.proofs.laws.free_laws.Goals as goal

pub returns : goal.returns
returns c = record {
  either = free_holds;
  wider = free_wider;
  monotone = free_monotone;
  word = free_word;
  same_bit = free_free;
  other_bit = free_other;
  unfixed = λ w k w_word. free_unfixed w w_word k;
  undone = λ w k one w_word. free_fix w w_word k one;
  restored = λ w k one w_word. fix_free w w_word k one;
  meets_bit = meets_bit;
  covers_bit = covers_bit;
  meets_others = meets_others;
  covers_others = covers_others;
  meets_freed = meets_freed;
  covers_freed = covers_freed;
  freed_covered = freed_covered;
}
