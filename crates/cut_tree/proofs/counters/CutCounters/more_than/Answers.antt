use Rattle.std.proofs.Common.{◌-◌, arith}
use Rattle.cut_tree.proofs.CutLeastCounts.{ordered_start, ordered_step}
use Rattle.cut_tree.proofs.counters.CutCounters.more_than.Goals as goal

pub loop-place-init : goal.loop-place-init
loop-place-init c = record {
  within = c.requires.here.bound;
  ordered = λ bit. ordered_start c.args.self.now.planes c.args.other.now.planes c.args.height bit
      c.requires.here c.requires.there;
}

pub loop-place-preserved : goal.loop-place-preserved
loop-place-preserved c = record {
  within = omega arith;
  ordered = λ bit. ordered_step c.args.self.now.planes c.args.other.now.planes
      (c.loop-place.place - 1) c.loop-place.place c.loop-place.settled c.loop-place.more bit
      (omega arith) (omega arith) (omega arith) (c.loop-place.invariant.ordered bit);
}
