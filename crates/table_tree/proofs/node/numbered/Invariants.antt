use Rattle.std.proofs.Common.{◌++◌, ◌≡◌, drop, length}
use Rattle.table_tree.specs.Regions.{AreTableTreeRegions, table_tree_candidates_from, table_tree_candidates_of}
use Rattle.table_tree.proofs.node.numbered.Given as goal

abbrev pub invariant-loop-row : goal.invariant-loop-row
invariant-loop-row l = record {
  candidates : table_tree_candidates_of l.rows ≡ l.candidates.items
      ++ table_tree_candidates_from l.row-index (drop l.row-index l.rows);
  count : length l.candidates.items ≡ l.row-index;
  words : AreTableTreeRegions l.candidates.items;
}
