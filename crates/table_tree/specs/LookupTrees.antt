-- A decision tree over the bits of a header number, without its boxes.
use Rattle.std.specs.Prelude.{if◌then◌else◌, ◌==◌, ℕ}
use Rattle.std.specs.Int.{bit_at}
use Rattle.table_tree.specs.declared.bit_tree.BitTree.{BitTree, End, Cut'}

-- where it leads, or a cut of a bit with the side of its zeros and that of its ones
pub data LookupTree (A : Type 0) : Type 0 where
  Leaf : A → LookupTree A
  Sides : ℕ → LookupTree A → LookupTree A → LookupTree A

-- the shape of a tree, with what contracts see of each end
abbrev pub lookup_tree_of : {L : Type 0} {A : Type 0} → (L → A) → BitTree L → LookupTree A
lookup_tree_of seen (End end) = Leaf (seen end)
lookup_tree_of seen (Cut' bit p low q high) =
    Sides bit (lookup_tree_of seen low) (lookup_tree_of seen high)

-- where the bits of a header number lead
abbrev pub table_tree_leaf_at : {A : Type 0} → ℕ → LookupTree A → A
table_tree_leaf_at number (Leaf x) = x
table_tree_leaf_at number (Sides bit low high) =
    if bit_at number bit == 1 then table_tree_leaf_at number high else table_tree_leaf_at number low
