use Rattle.ternary.proofs.TernaryWords.{exact_holds}
use Rattle.ternary.proofs.word.Word.exact.Goals as goal

pub returns-clause-alone : goal.returns-clause-alone
returns-clause-alone c = λ x x_fits. exact_holds c.args.h x c.requires x_fits
