use Rattle.std.proofs.Common.{◌≡◌, length}
use Rattle.base_tests.proofs.tests.rule_trees.rules.Given as goal

abbrev pub invariant-loop-k : goal.invariant-loop-k
invariant-loop-k l = length l.rules.items ≡ l.k
