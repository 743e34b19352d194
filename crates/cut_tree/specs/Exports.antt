-- The definitions of this crate that others use, passed on from the files that define them.
pub use Rattle.cut_tree.specs.Counts.{HaveCutSidesCounted, IsCutSideCounting, IsCutPlaneHeight, IsCutBitOfLeastCount, IsNarrowInCutRegion, cut_count_at, cut_count_by, counted_cut_cost}
pub use Rattle.cut_tree.specs.Cuts.{CutCostsAtMost, IsCuttableBit, IsLeastCut, cheaper_cut_cost, cut_cost_from, cut_cost_of, is_cheaper_cut, side_of_cut}
unfoldable pub use Rattle.cut_tree.specs.Cuts.{least_cut_cost_below}
pub use Rattle.cut_tree.specs.DefinedTree.{IsDefinedCutTree, IsCutTreeOf, cut_tree_by, free_cut_bit_count, cut_tree_at}
unfoldable pub use Rattle.cut_tree.specs.DefinedTree.{cut_tree_of, cut_tree_within}
pub use Rattle.cut_tree.specs.Laws.{CutTreeLaws}
unfoldable pub use Rattle.cut_tree.specs.Narrow.{narrow, cut_narrowed_rule}
pub use Rattle.cut_tree.specs.Nodes.{AreCutNodeRules, AreCutRuleWords, IsCutRegionOneHeader, LiesInCutRegion}
pub use Rattle.cut_tree.specs.Shape.{End, Node, CutTreeShape, cut_leaf_count, cut_leaves_of, cut_tree_shape_of}
