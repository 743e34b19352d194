use Rattle.std.proofs.Common.{◌≡◌, flat_map, take}
use Rattle.policy_rules.specs.Exports.{policy_row_word_hits, policy_rules_ranked_from}
use Rattle.policy_rules.proofs.rule_list.list_rules.Given as goal

abbrev pub invariant-loop-row : goal.invariant-loop-row
invariant-loop-row l = l.rules.items ≡ policy_rules_ranked_from 0 (flat_map policy_row_word_hits (take l.row-index l.rows))
