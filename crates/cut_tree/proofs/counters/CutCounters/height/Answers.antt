use Rattle.std.proofs.Common.{◌≤◌, List, arith, length, ℕ}
use Rattle.base.proofs.Exports.{at_drop_all}
use Rattle.cut_tree.specs.Exports.{IsCutPlaneHeight, cut_count_at}
use Rattle.cut_tree.proofs.counters.CutCounters.height.Goals as goal

pub loop-height-init : goal.loop-height-init
loop-height-init c = record {
  here = whole c.args.self.now.planes (omega arith);
  there = whole c.args.other.now.planes (omega arith);
} where
  whole : (planes : List ℕ) → length planes ≤ 32 → IsCutPlaneHeight planes 32
  whole planes few = record {
    bound = omega arith;
    above = λ bit. at_drop_all (λ (some : List ℕ). cut_count_at some bit) planes 32 few;
  }
