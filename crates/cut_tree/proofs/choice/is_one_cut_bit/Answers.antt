use Rattle.std.proofs.Common.{arith, eq-eqb, eqb-true}
use Rattle.cut_tree.proofs.CutSides.{lowest_beyond, one_shifted}
use Rattle.cut_tree.proofs.choice.is_one_cut_bit.Goals as goal

pub returns : goal.returns
returns c = rw (one_shifted _ (lowest_beyond c.args.bits c.requires (omega arith)))
    (eqb-true _ _, eq-eqb _ _)
