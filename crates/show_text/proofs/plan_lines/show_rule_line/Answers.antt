use Rattle.std.proofs.Common.{arith, rules}
use Rattle.lines.proofs.LinesCallerLemmas.{pushed_append, pushed_whole}
use Rattle.show_text.specs.Text.{shown_rule_text, shown_with_line_feed}
use Rattle.show_text.proofs.PlanTextLengths.{rule_fits}
use Rattle.show_text.proofs.plan_lines.show_rule_line.Goals as goal

pub returns : goal.returns
returns c =
    let rule = c.args.rule.now in
    let fits = rule_fits rule (search rules) c.push_rule.ensures.of_type c.push_line_action.ensures.of_type in
    let whole = pushed_whole (shown_with_line_feed (shown_rule_text rule)) fits in
    grind (arith, pushed_append, whole)
