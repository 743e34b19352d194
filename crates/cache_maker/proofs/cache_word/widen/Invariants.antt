use Rattle.std.proofs.Common.{◌≤◌, length, take}
use Rattle.cache_maker.proofs.CacheWordFixedBits.{AreFixed, IsGiven, left_over}
use Rattle.cache_maker.proofs.cache_word.widen.Given as goal

abbrev pub invariant-loop-place : goal.invariant-loop-place
invariant-loop-place l = record {
  given : IsGiven l.number l.region l.rules l.index l.closed;
  are : AreFixed l.number l.closed (take l.index l.rules) l.fixed l.reasons;
  from : l.from ≤ length (take l.index l.rules);
}

abbrev pub decreases-loop-place : goal.decreases-loop-place
decreases-loop-place l = left_over l.fixed
