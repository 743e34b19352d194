use Rattle.cut_tree.specs.Exports.{cut_leaf_count, cut_tree_shape_of}
use Rattle.partition.proofs.parts.+push_leaves.Given as goal

abbrev pub decreases-push_leaves : goal.decreases-push_leaves
decreases-push_leaves l = cut_leaf_count (cut_tree_shape_of l.tree.now)
