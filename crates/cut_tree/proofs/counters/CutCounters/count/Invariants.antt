use Rattle.std.proofs.Common.{◌≡◌, ◌≤◌, drop}
use Rattle.cut_tree.specs.Exports.{cut_count_at}
use Rattle.cut_tree.proofs.counters.CutCounters.count.Given as goal

abbrev pub invariant-loop-place : goal.invariant-loop-place
invariant-loop-place l = record {
  within : l.place ≤ 32;
  counted : l.count ≡ cut_count_at (drop l.place l.self.planes) l.bit;
}

abbrev pub decreases-loop-place : goal.decreases-loop-place
decreases-loop-place l = l.place
