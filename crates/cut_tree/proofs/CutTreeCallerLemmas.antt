-- What proofs above cite.
pub use Rattle.cut_tree.proofs.CutNarrowingTwice.{narrow_twice, narrow_first}
pub use Rattle.cut_tree.proofs.CutTreeLemmas.{one_tree, tree_defined}
pub use Rattle.cut_tree.proofs.CutNarrowing.{narrow_few}
