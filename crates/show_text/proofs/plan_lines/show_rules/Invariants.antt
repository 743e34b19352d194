use Rattle.std.proofs.Common.{◌++◌, ◌≡◌, take}
use Rattle.show_text.specs.Text.{shown_rule_lines}
use Rattle.show_text.proofs.plan_lines.show_rules.Given as goal

abbrev pub invariant-loop-rule : goal.invariant-loop-rule
invariant-loop-rule l = l.text.items ≡ l.initial.text.items ++ shown_rule_lines
    (take l.rule-index l.rules)
