use Rattle.cut_tree.proofs.CutCounting.{three_added}
use Rattle.cut_tree.proofs.counters.added.Goals as goal

pub returns : goal.returns
returns c = λ bit. three_added c.args.a c.args.b c.args.c bit
