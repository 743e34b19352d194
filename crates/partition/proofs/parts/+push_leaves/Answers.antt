use Rattle.std.proofs.Common.{◌∙◌, ◌≡◌, ap, arith}
use Rattle.cut_tree.specs.Exports.{Node, cut_tree_shape_of}
use Rattle.partition.proofs.PartLemmas.{both_sides, pushed_leaf, pushed_room, pushed_both}
use Rattle.partition.proofs.parts.+push_leaves.Goals as goal

pub push_leaves-requires : goal.push_leaves-requires
push_leaves-requires t c =
    let is : cut_tree_shape_of c.args.tree.now ≡ Node c.in-Cut.bit (cut_tree_shape_of c.deref.result.now)
    (cut_tree_shape_of c.in-Cut.high.value) = rw c.deref.ensures (ap cut_tree_shape_of c.in-Cut.is) in
    let sides = both_sides _ _ _ _ is in
    (omega (arith, sides.0, sides.2), omega (arith, sides.0, sides.2, c.requires))

pub push_leaves-requires-in-Cut : goal.push_leaves-requires-in-Cut
push_leaves-requires-in-Cut t c =
    let is : cut_tree_shape_of c.args.tree.now ≡ Node c.in-Cut.bit (cut_tree_shape_of c.deref.result.now)
    (cut_tree_shape_of c.deref-in-Cut.result.now) = rw (c.deref.ensures, c.deref-in-Cut.ensures)
    (ap cut_tree_shape_of c.in-Cut.is) in
    let sides = both_sides _ _ _ _ is in (
      omega (arith, sides.0, sides.1),
      pushed_room c.args.parts.now.items _ _ _ _ _ _ is
          c.in_ok-push_leaves-in-Cut.ensures c.requires,
    )

pub returns-in_ok-push-in-Leaf : goal.returns-in_ok-push-in-Leaf
returns-in_ok-push-in-Leaf t c = rw c.in_ok-push-in-Leaf.ensures.items
    (pushed_leaf c.args.parts.now.items _ _ _ _ _ (ap cut_tree_shape_of c.in-Leaf.is)
    c.in_ok-rules-in-Leaf.ensures.cases (c.len-number.ensures ∙ omega arith))

pub returns-in_ok-push_leaves-in-Cut-2 : goal.returns-in_ok-push_leaves-in-Cut-2
returns-in_ok-push_leaves-in-Cut-2 t c =
    let is : cut_tree_shape_of c.args.tree.now ≡ Node c.in-Cut.bit (cut_tree_shape_of c.deref.result.now)
    (cut_tree_shape_of c.deref-in-Cut.result.now) = rw (c.deref.ensures, c.deref-in-Cut.ensures)
    (ap cut_tree_shape_of c.in-Cut.is) in
    pushed_both c.args.parts.now.items _ _ _ _ _ _ is c.in_ok-push_leaves-in-Cut.ensures
    c.in_ok-push_leaves-in-Cut-2.ensures
