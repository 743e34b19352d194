use Rattle.cut_tree.specs.Exports.{IsCutPlaneHeight}
use Rattle.cut_tree.proofs.counters.CutCounters.height.Given as goal

abbrev pub invariant-loop-height : goal.invariant-loop-height
invariant-loop-height l = record {
  here : IsCutPlaneHeight l.self.planes l.height;
  there : IsCutPlaneHeight l.other.planes l.height;
}

abbrev pub decreases-loop-height : goal.decreases-loop-height
decreases-loop-height l = l.height
