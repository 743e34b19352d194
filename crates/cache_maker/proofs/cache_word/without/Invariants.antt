use Rattle.cache_maker.proofs.CacheWordFixedBits.{IsPartWithout}
use Rattle.cache_maker.proofs.cache_word.without.Given as goal

abbrev pub invariant-loop-left : goal.invariant-loop-left
invariant-loop-left l = IsPartWithout l.fixed l.reasons l.bit l.stays l.left

abbrev pub decreases-loop-left : goal.decreases-loop-left
decreases-loop-left l = l.left
