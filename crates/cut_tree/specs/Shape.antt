-- A tree as its cuts and leaves, without its boxes and shared lists.
use Rattle.std.specs.Prelude.{[], ◌++◌, ◌∷◌, List, length, ℕ}
use Rattle.ternary.specs.Exports.{WordValue}
use Rattle.policy_rules.specs.declared.rules.Rule.{Rule}
use Rattle.cut_tree.specs.declared.tree.Tree.{Tree, Leaf, Cut'}

pub data CutTreeShape : Type 0 where
  End : WordValue → List Rule → CutTreeShape
  Node : ℕ → CutTreeShape → CutTreeShape → CutTreeShape

abbrev pub cut_tree_shape_of : Tree → CutTreeShape
cut_tree_shape_of (Leaf region rules) = End region rules
cut_tree_shape_of (Cut' bit p low q high) = Node bit (cut_tree_shape_of low) (cut_tree_shape_of high)

-- the leaves, low side before high side, each with its region and its rules
abbrev pub cut_leaves_of : CutTreeShape → List (WordValue × List Rule)
cut_leaves_of (End region rules) = (region, rules) ∷ []
cut_leaves_of (Node bit low high) = cut_leaves_of low ++ cut_leaves_of high

abbrev pub cut_leaf_count : CutTreeShape → ℕ
cut_leaf_count shape = length (cut_leaves_of shape)
