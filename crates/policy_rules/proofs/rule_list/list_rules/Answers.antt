use Rattle.std.proofs.Common.{[], ◌++◌, ◌∙◌, ◌∷◌, ◌≡◌, ◌≤◌, List, ap, arith, flat_map, length, sym, take, take_all, ℕ}
use Rattle.base.proofs.Exports.{flat_map_more, sum_by-take-le, take_more}
use Rattle.policy_rules.specs.Exports.{policy_row_word_hits, policy_rules_ranked_from, policy_hits_with_default, policy_row_word_total}
use Rattle.policy_rules.specs.declared.policy.Row.{Row}
use Rattle.policy_rules.specs.declared.rules.Rule.{Rule}
use Rattle.policy_rules.proofs.PolicyRuleRanks.{ranked_more, length-rules_ranked_from, length-entries}
use Rattle.policy_rules.proofs.rule_list.list_rules.Goals as goal

pub loop-row-init : goal.loop-row-init
unfolding policy_rules_ranked_from
loop-row-init c = c.in_ok-rules.ensures.items

-- the rules of the first rows are no more than the words of all
few_yet : (rows : List Row) (k : ℕ) (rules : List Rule)
    → rules ≡ policy_rules_ranked_from 0 (flat_map policy_row_word_hits (take k rows)) → length rules ≤ policy_row_word_total rows
few_yet rows k rules is =
    omega (arith, ap length is, length-rules_ranked_from, length-entries, sum_by-take-le)

pub push_policy_row_rules-requires-clause-few : goal.push_policy_row_rules-requires-clause-few
push_policy_row_rules-requires-clause-few c = omega (arith, few_yet)

pub loop-row-preserved : goal.loop-row-preserved
loop-row-preserved c =
    let i = c.loop-row.row-index in
    let row = c.row-item.result in
    let done = take i c.args.rows.now in
    let more = take_more c.args.rows.now i row c.loop-row-test.true
    ∙ ap (λ x. done ++ x ∷ []) (sym c.row-item.is) in
    ranked_more [] _ _ _ _ _ c.loop-row.invariant c.in_ok-push_policy_row_rules.ensures
    (ap (flat_map policy_row_word_hits) more ∙ sym (flat_map_more policy_row_word_hits [] done row))

pub push_policy_rule-requires : goal.push_policy_rule-requires
push_policy_rule-requires c = omega (arith, few_yet)

pub returns : goal.returns
returns c = ranked_more [] _ _ _ _ _ c.loop-row.invariant
    (rw c.any.ensures.pair at c.in_ok-push_policy_rule.ensures) (ap (λ rows. policy_hits_with_default rows)
    (sym (take_all c.loop-row.row-index c.args.rows.now (omega arith))))
