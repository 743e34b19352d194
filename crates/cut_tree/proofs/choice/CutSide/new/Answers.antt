use Rattle.std.proofs.Common.{arith}
use Rattle.base.proofs.Exports.{bit_at_ones}
use Rattle.cut_tree.proofs.choice.CutSide.new.Goals as goal

pub returns-clause-expected : goal.returns-clause-expected
returns-clause-expected c = λ region bit rules within.
    rw (c.new.ensures bit, bit_at_ones 128 bit (omega arith)) (omega arith)
