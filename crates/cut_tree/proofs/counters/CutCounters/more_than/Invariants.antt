use Rattle.std.proofs.Common.{◌≤◌, drop, ℕ}
use Rattle.base.proofs.Exports.{bit_at}
use Rattle.cut_tree.specs.Exports.{cut_count_at}
use Rattle.cut_tree.proofs.CutLeastCounts.{AreOrdered}
use Rattle.cut_tree.proofs.counters.CutCounters.more_than.Given as goal

abbrev pub invariant-loop-place : goal.invariant-loop-place
invariant-loop-place l = record {
  within : l.place ≤ 32;
  ordered : (bit : ℕ) → AreOrdered (bit_at l.settled bit) (bit_at l.more bit)
      (cut_count_at (drop l.place l.self.planes) bit) (cut_count_at (drop l.place l.other.planes) bit);
}

abbrev pub decreases-loop-place : goal.decreases-loop-place
decreases-loop-place l = l.place
