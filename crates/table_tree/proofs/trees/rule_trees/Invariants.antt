use Rattle.std.proofs.Common.{◌++◌, ◌≡◌, drop, map}
use Rattle.table_tree.specs.Ruling.{part_lookup_tree, table_tree_seen}
use Rattle.table_tree.proofs.trees.rule_trees.Given as goal

abbrev pub invariant-loop-part : goal.invariant-loop-part
invariant-loop-part l = map part_lookup_tree l.parts
    ≡ map table_tree_seen l.trees.items ++ map part_lookup_tree (drop l.part-index l.parts)
