use Rattle.cut_tree.proofs.CutSides.{counted_all}
use Rattle.cut_tree.proofs.choice.count_cut_sides.Goals as goal

pub returns-clause-low : goal.returns-clause-low
returns-clause-low c = counted_all _ _ _ _ _ c.loop-place.invariant.low c.loop-place-test.false

pub returns-clause-high : goal.returns-clause-high
returns-clause-high c = counted_all _ _ _ _ _ c.loop-place.invariant.high c.loop-place-test.false
