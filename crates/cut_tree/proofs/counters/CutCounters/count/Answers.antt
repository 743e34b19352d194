use Rattle.std.proofs.Common.{◌-◌, arith, slice_index_or, sym}
use Rattle.base.proofs.Exports.{bit_at-lt, shr_and_one}
use Rattle.cut_tree.proofs.CutCounting.{rest_below}
use Rattle.cut_tree.proofs.counters.CutCounters.count.Goals as goal

pub loop-place-init : goal.loop-place-init
loop-place-init c = record {
  within = c.requires.here.bound;
  counted = sym (c.requires.here.above c.args.bit);
}

pub overflow_mul-count : goal.overflow_mul-count
overflow_mul-count c = omega (
  arith,
  c.loop-place.invariant.counted,
  rest_below c.args.self.now.planes c.loop-place.place c.args.bit (omega arith) (omega arith),
)

pub overflow_add-count : goal.overflow_add-count
overflow_add-count c =
    let plane = slice_index_or c.args.self.now.planes (c.loop-place.place - 1) 0 in
    omega (
      arith,
      c.loop-place.invariant.counted,
      rest_below c.args.self.now.planes c.loop-place.place c.args.bit (omega arith) (omega arith),
      shr_and_one plane c.args.bit,
      bit_at-lt plane c.args.bit,
    )
