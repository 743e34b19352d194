use Rattle.std.proofs.Common.{◌∙◌, All, ap, arith, option_map, subst, sym}
use Rattle.base.proofs.Exports.{All-permutation, sum_by-IsPermutation}
use Rattle.policy_rules.specs.Exports.{IsSoundPolicyRow, policy_rows_by_falling_priority, first_policy_rule, policy_hit_of_rule, policy_rules_ranked_from, policy_rules_of, policy_hits_with_default, policy_row_word_count, policy_row_word_total}
use Rattle.policy_rules.proofs.PolicyFallingRows.{IsPermutation-by_falling_priority}
use Rattle.policy_rules.proofs.rule_list.to_rules.Goals as goal

pub list_rules-requires-clause-few : goal.list_rules-requires-clause-few
list_rules-requires-clause-few c = let rows = c.args.policy.now in
    omega (
      arith,
      ap policy_row_word_total (c.deref.ensures.value ∙ c.in_ok-sorted.ensures ∙ ap policy_rows_by_falling_priority
          c.rows.ensures.rows),
      sum_by-IsPermutation policy_row_word_count rows (policy_rows_by_falling_priority rows)
          (IsPermutation-by_falling_priority rows c.rows.ensures.policy.sound),
      c.count_policy_match_words-words.ensures,
    )

pub list_rules-requires-clause-sound : goal.list_rules-requires-clause-sound
list_rules-requires-clause-sound c = let rows = c.args.policy.now in
    subst (All IsSoundPolicyRow) (sym (c.deref.ensures.value ∙ c.in_ok-sorted.ensures
    ∙ ap policy_rows_by_falling_priority c.rows.ensures.rows))
    (All-permutation IsSoundPolicyRow rows (policy_rows_by_falling_priority rows)
    (IsPermutation-by_falling_priority rows c.rows.ensures.policy.sound)
    c.rows.ensures.policy.sound)

pub returns-clause-rules : goal.returns-clause-rules
unfolding policy_rules_of
returns-clause-rules c = c.in_ok-rules.ensures ∙ ap (λ rows. policy_rules_ranked_from 0 (policy_hits_with_default rows))
    (c.deref.ensures.value ∙ c.in_ok-sorted.ensures ∙ ap policy_rows_by_falling_priority c.rows.ensures.rows)

pub returns-clause-first_match : goal.returns-clause-first_match
returns-clause-first_match c = λ header bits.
    ap (λ rules. option_map policy_hit_of_rule (first_policy_rule rules header)) (returns-clause-rules c)
    ∙ c.rule_list_laws.ensures.first_match c.args.policy.now header c.rows.ensures.policy bits

pub returns-clause-list : goal.returns-clause-list
returns-clause-list c = rw (returns-clause-rules c)
    (c.rule_list_laws.ensures.list c.args.policy.now c.rows.ensures.policy)

pub returns-clause-count : goal.returns-clause-count
returns-clause-count c = rw (returns-clause-rules c)
    (c.rule_list_laws.ensures.count c.args.policy.now c.rows.ensures.policy)
