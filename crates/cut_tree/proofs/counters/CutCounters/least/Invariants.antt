use Rattle.std.proofs.Common.{◌↔◌, ◌≡◌, ◌≢◌, ◌≤◌, drop, ℕ}
use Rattle.base.proofs.Exports.{bit_at}
use Rattle.cut_tree.specs.Exports.{IsCutBitOfLeastCount, cut_count_by}
use Rattle.cut_tree.proofs.counters.CutCounters.least.Given as goal

abbrev pub invariant-loop-place : goal.invariant-loop-place
invariant-loop-place l = record {
  within : l.place ≤ 32;
  some : l.least ≢ 0;
  least : (bit : ℕ) → (bit_at l.least bit ≡ 1)
      ↔ IsCutBitOfLeastCount l.bits (cut_count_by (drop l.place l.self.planes) (drop l.place l.other.planes) l.which) bit;
}

abbrev pub decreases-loop-place : goal.decreases-loop-place
decreases-loop-place l = l.place
