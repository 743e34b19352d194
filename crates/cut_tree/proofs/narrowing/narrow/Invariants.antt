use Rattle.std.proofs.Common.{◌++◌, ◌≡◌, drop}
use Rattle.cut_tree.specs.Exports.{narrow}
use Rattle.cut_tree.proofs.narrowing.narrow.Given as goal

abbrev pub invariant-loop-rule : goal.invariant-loop-rule
invariant-loop-rule l = narrow l.rules l.region ≡ l.kept.items ++ narrow (drop l.rule-index l.rules)
    l.region
