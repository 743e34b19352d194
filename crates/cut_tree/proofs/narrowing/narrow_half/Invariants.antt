use Rattle.std.proofs.Common.{◌++◌, ◌≡◌, drop}
use Rattle.cut_tree.specs.Exports.{side_of_cut}
use Rattle.cut_tree.proofs.narrowing.narrow_half.Given as goal

abbrev pub invariant-loop-rule : goal.invariant-loop-rule
invariant-loop-rule l = side_of_cut l.rules l.region l.bit l.one
    ≡ l.kept.items ++ side_of_cut (drop l.rule-index l.rules) l.region l.bit l.one
