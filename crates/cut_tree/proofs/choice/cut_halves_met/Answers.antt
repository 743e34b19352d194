use Rattle.std.proofs.Common.{arith}
use Rattle.cut_tree.proofs.CutSides.{met_high, met_low}
use Rattle.cut_tree.proofs.choice.cut_halves_met.Goals as goal

pub returns-then-one : goal.returns-then-one
returns-then-one c = λ bit within.
    rw (c.value-value.ensures.value, c.mask.ensures.mask, c.if-one.true)
    (met_high c.args.word.now bit (omega arith) within)

pub returns-else-one : goal.returns-else-one
returns-else-one c = λ bit within. rw (c.value-value.ensures.value, c.if-one.false)
    (met_low c.args.word.now bit c.value-value.ensures.word (omega arith) within)
