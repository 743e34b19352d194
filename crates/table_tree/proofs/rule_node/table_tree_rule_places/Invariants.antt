use Rattle.std.proofs.Common.{◌++◌, ◌≡◌, drop, map}
use Rattle.table_tree.proofs.TableTreeRules.{rank_of}
use Rattle.table_tree.proofs.rule_node.table_tree_rule_places.Given as goal

abbrev pub invariant-loop-rule : goal.invariant-loop-rule
invariant-loop-rule l = map rank_of l.rules
    ≡ l.places.items ++ map rank_of (drop l.rule-index l.rules)
