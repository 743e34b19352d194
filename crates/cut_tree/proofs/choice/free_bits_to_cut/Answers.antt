use Rattle.cut_tree.proofs.CutLeastCounts.{free_mask}
use Rattle.cut_tree.proofs.choice.free_bits_to_cut.Goals as goal

pub returns : goal.returns
returns c = λ bit.
    free_mask c.args.region.now c.mask.result bit c.mask.ensures.mask c.mask.ensures.bound
