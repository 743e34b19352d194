use Rattle.std.proofs.Common.{◌++◌, ◌≡◌, drop, length}
use Rattle.cut_tree.specs.Exports.{AreCutRuleWords}
use Rattle.table_tree.specs.Ruling.{table_tree_ranked_rules}
use Rattle.table_tree.proofs.rule_tree.ranked_table_tree_rules.Given as goal

abbrev pub invariant-loop-rule : goal.invariant-loop-rule
invariant-loop-rule l = record {
  rules : table_tree_ranked_rules 0 l.rules ≡ l.ranked.items ++ table_tree_ranked_rules l.rule-index (drop l.rule-index l.rules);
  count : length l.ranked.items ≡ l.rule-index;
  words : AreCutRuleWords l.ranked.items;
}
