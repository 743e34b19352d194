use Rattle.ternary.proofs.TernaryWords.{any_holds}
use Rattle.ternary.proofs.word.Word.any.Goals as goal

pub returns-clause-all : goal.returns-clause-all
returns-clause-all c = any_holds
