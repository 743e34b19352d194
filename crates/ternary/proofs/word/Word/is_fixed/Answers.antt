use Rattle.ternary.proofs.TernaryWords.{tested_bit}
use Rattle.ternary.proofs.word.Word.is_fixed.Goals as goal

pub returns : goal.returns
returns c = rw (← c.self.view_is) (tested_bit _ c.args.bit)
