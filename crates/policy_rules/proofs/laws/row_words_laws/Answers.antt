use Rattle.std.proofs.Common.{rules}
use Rattle.policy_rules.proofs.PolicyRuleRanks.{length-words_of_row}
use Rattle.policy_rules.proofs.PolicyRuleLaw.{holds-words_of_row}
use Rattle.policy_rules.proofs.PolicyRuleShape.{IsWord-words_of_row}
use Rattle.policy_rules.proofs.laws.row_words_laws.Goals as goal

pub returns : goal.returns
returns c = search (rules, IsWord-words_of_row, length-words_of_row, holds-words_of_row)
