use Rattle.std.proofs.Common.{arith}
use Rattle.cut_tree.proofs.choice.CutSide.count.Goals as goal

pub returns-clause-expected : goal.returns-clause-expected
returns-clause-expected c = λ bit rules free.
    rw (c.add.ensures bit) (omega (arith, c.pass-kept.ensures bit rules free))
