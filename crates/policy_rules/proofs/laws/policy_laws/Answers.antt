use Rattle.policy_rules.proofs.PolicyFirstMatch.{first_match-only, first_match-scan}
use Rattle.policy_rules.proofs.PolicyFallingRows.{IsPriorityFalling-by_falling_priority, IsPermutation-by_falling_priority, same_sorted}
use Rattle.policy_rules.proofs.laws.policy_laws.Goals as goal

pub returns : goal.returns
returns c = record {
  one = λ rows header hit policy. first_match-only rows header hit policy.distinct;
  scan = first_match-scan;
  sorted = λ rows policy. IsPermutation-by_falling_priority rows policy.sound;
  falling = IsPriorityFalling-by_falling_priority;
  only = λ rows sorted policy. same_sorted rows sorted policy.sound policy.distinct;
}
