use Rattle.std.proofs.Common.{◌∙◌, ◌≢◌, ap, filter, subst, sym}
use Rattle.base.proofs.Exports.{AllPairs-filter}
use Rattle.policy_rules.specs.declared.policy.Row.{Row}
use Rattle.policy_rules.specs.Exports.{PolicyHasDistinctPriorities, policy_hit_of, policy_row_matches, policy_scan_by}
use Rattle.policy_rules.proofs.PolicyFirstMatch.{highest_is}
use Rattle.policy_rules.proofs.policy.Policy.scan.Goals as goal

pub returns-in-Some-clause-value : goal.returns-in-Some-clause-value
returns-in-Some-clause-value c =
    let rows = c.rows.result.now in
    let f = c.fields.result in
    let kept = AllPairs-filter (λ (x y : Row). x.priority ≢ y.priority) (λ row. policy_row_matches row f)
    rows (subst PolicyHasDistinctPriorities (sym c.rows.ensures.rows) c.rows.ensures.policy.distinct) in
    c.of.ensures ∙ ap policy_hit_of (sym (highest_is (filter (λ row. policy_row_matches row f) rows)
    c.in-Some.row.now kept c.in-Some.ensures)) ∙ ap (λ rows. policy_scan_by rows f) c.rows.ensures.rows
    ∙ ap (policy_scan_by c.args.self.now) c.fields.ensures
