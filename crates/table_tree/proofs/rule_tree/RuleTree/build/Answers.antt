use Rattle.std.proofs.Common.{ap, arith, length}
use Rattle.table_tree.proofs.TableTreeRules.{length_ranked}
use Rattle.table_tree.proofs.rule_tree.RuleTree.build.Goals as goal

pub new-requires-clause-few : goal.new-requires-clause-few
new-requires-clause-few c = omega (
  arith,
  c.requires,
  ap length c.deref.ensures.value,
  ap length c.in_ok-ranked.ensures.rules,
  length_ranked 0 c.args.rules.now,
)
