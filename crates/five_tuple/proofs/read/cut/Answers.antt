use Rattle.std.proofs.Common.{sym}
use Rattle.std.proofs.lemmas.List.{take_rest}
use Rattle.five_tuple.proofs.HeaderSplitParts.{parts_at, parts_none}
use Rattle.five_tuple.proofs.read.cut.Goals as goal

pub returns-in_err-at : goal.returns-in_err-at
returns-in_err-at c = rw c.from_residual.ensures
    (parts_none c.args.byte c.args.text.now (sym c.in_err-at.ensures))

pub returns : goal.returns
returns c = simp take_rest
    (parts_at c.args.byte c.args.text.now c.in_ok-at.at (sym c.in_ok-at.ensures))
