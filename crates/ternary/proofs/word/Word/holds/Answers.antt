use Rattle.ternary.proofs.TernaryWords.{masked_holds, holds_decides}
use Rattle.ternary.proofs.word.Word.holds.Goals as goal

pub returns-clause-test : goal.returns-clause-test
returns-clause-test c = rw (← c.self.view_is) (masked_holds _ c.self.invariant c.args.h)

pub returns-clause-agrees : goal.returns-clause-agrees
returns-clause-agrees c = rw (returns-clause-test c) (holds_decides c.args.self.now c.args.h)
