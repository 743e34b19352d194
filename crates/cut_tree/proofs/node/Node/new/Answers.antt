use Rattle.std.proofs.Common.{arith}
use Rattle.cut_tree.proofs.CutNarrowing.{narrow_node, narrow_few}
use Rattle.cut_tree.proofs.node.Node.new.Goals as goal

pub invariant_of-result : goal.invariant_of-result
invariant_of-result c =
    let rules = c.args.rules.now in
    let region = c.args.region.now in
    rw c.in_ok-rules.ensures (record {
      sound = narrow_node rules region c.mask.ensures.word c.requires.words;
      few = omega (arith, narrow_few rules region, c.requires.few);
    })
