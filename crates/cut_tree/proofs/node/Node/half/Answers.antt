use Rattle.std.proofs.Common.{arith}
use Rattle.ternary.specs.Exports.{word_fix_of}
use Rattle.cut_tree.proofs.CutNarrowing.{narrow_few}
use Rattle.cut_tree.proofs.CutTreeLemmas.{side_node}
use Rattle.cut_tree.proofs.node.Node.half.Goals as goal

pub narrow_half-requires : goal.narrow_half-requires
narrow_half-requires c =
    rw c.deref.ensures.value (record { free = c.requires; within = c.args.self.now.sound.within })

pub invariant_of-result : goal.invariant_of-result
invariant_of-result c = let node = c.args.self.now in
    rw (c.in_ok-rules.ensures, c.deref.ensures.value, c.fix.ensures.pair) (record {
      sound = side_node node.rules.items node.region c.args.bit c.args.one node.sound
          c.requires.bound;
      few = omega (
        arith,
        narrow_few node.rules.items (word_fix_of node.region c.args.bit c.args.one),
        node.few,
      );
    })
