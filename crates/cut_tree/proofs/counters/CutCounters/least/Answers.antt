use Rattle.std.proofs.Common.{◌-◌, arith, drop}
use Rattle.cut_tree.specs.Exports.{cut_count_by}
use Rattle.cut_tree.proofs.CutLeastCounts.{chosen_at, least_fewer, least_same, least_start}
use Rattle.cut_tree.proofs.counters.CutCounters.least.Goals as goal

pub loop-place-init : goal.loop-place-init
loop-place-init c = record {
  within = c.requires.here.bound;
  some = c.requires.some;
  least = λ bit. least_start c.args.self.now.planes c.args.other.now.planes c.args.height
      c.args.which c.args.bits bit c.requires.here c.requires.there;
}

pub loop-place-preserved-then-fewer-ne0 : goal.loop-place-preserved-then-fewer-ne0
loop-place-preserved-then-fewer-ne0 c =
    let own = c.args.self.now.planes in
    let others = c.args.other.now.planes in
    let next = c.loop-place.place in record {
      within = omega arith;
      some = c.if-fewer-ne0.true;
      least = least_fewer c.args.bits c.loop-place.least _
          (cut_count_by (drop next own) (drop next others) c.args.which)
          (cut_count_by (drop (next - 1) own) (drop (next - 1) others) c.args.which)
          (λ bit. chosen_at own others (next - 1) next c.args.which bit (omega arith) (omega arith)
          (omega arith)) c.loop-place.invariant.least (omega (arith, c.loop-place.auto.least-fits))
          c.if-fewer-ne0.true;
    }

pub loop-place-preserved : goal.loop-place-preserved
loop-place-preserved c =
    let own = c.args.self.now.planes in
    let others = c.args.other.now.planes in
    let next = c.loop-place.place in record {
      within = omega arith;
      some = c.loop-place.invariant.some;
      least = least_same c.args.bits c.loop-place.least _
          (cut_count_by (drop next own) (drop next others) c.args.which)
          (cut_count_by (drop (next - 1) own) (drop (next - 1) others) c.args.which)
          (λ bit. chosen_at own others (next - 1) next c.args.which bit (omega arith) (omega arith)
          (omega arith)) c.loop-place.invariant.least c.if-fewer-ne0.false;
    }
