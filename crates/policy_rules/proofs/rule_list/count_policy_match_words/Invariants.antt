use Rattle.std.proofs.Common.{◌*◌, ◌≡◌, ◌≤◌, take}
use Rattle.policy_rules.specs.Exports.{policy_row_word_total}
use Rattle.policy_rules.proofs.rule_list.count_policy_match_words.Given as goal

abbrev pub invariant-loop-row : goal.invariant-loop-row
invariant-loop-row l = record {
  total : l.words ≡ policy_row_word_total (take l.row-index l.policy);
  few : l.words ≤ 900 * l.row-index;
}
