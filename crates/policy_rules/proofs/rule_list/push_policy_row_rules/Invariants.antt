use Rattle.std.proofs.Common.{◌++◌, ◌≡◌, length, take}
use Rattle.policy_rules.specs.Exports.{policy_rules_ranked_from, policy_words_with_hit}
use Rattle.policy_rules.proofs.rule_list.push_policy_row_rules.Given as goal

abbrev pub invariant-loop-word : goal.invariant-loop-word
invariant-loop-word l = l.rules.items ≡ l.initial.rules.items
    ++ policy_rules_ranked_from (length l.initial.rules.items) (policy_words_with_hit l.row (take l.word-index l.word-items))
