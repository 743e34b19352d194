use Rattle.std.proofs.Common.{[], ◌++◌, ◌∙◌, ◌∷◌, ap}
use Rattle.policy_rules.specs.Exports.{policy_rules_ranked_from, ranked_policy_rule}
use Rattle.policy_rules.proofs.rule_list.push_policy_rule.Goals as goal

pub returns : goal.returns
unfolding policy_rules_ranked_from
returns c = let before = c.args.rules.now in
    c.in_ok-push.ensures.items
    ∙ ap (λ rank. before.items ++ ranked_policy_rule (rank, (c.args.word, c.args.hit)) ∷ [])
    (c.len-rank.ensures ∙ before.ok.0)
