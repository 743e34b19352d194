use Rattle.std.proofs.Common.{rules}
use Rattle.policy_rules.proofs.PolicyRuleLaw.{first_rule-rules_of}
use Rattle.policy_rules.proofs.PolicyRuleShape.{IsRuleList-rules_of, length-rules_of}
use Rattle.policy_rules.proofs.laws.rule_list_laws.Goals as goal

pub returns : goal.returns
returns c = search (rules, IsRuleList-rules_of, length-rules_of, first_rule-rules_of)
