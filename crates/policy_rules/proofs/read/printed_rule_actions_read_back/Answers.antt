use Rattle.std.proofs.Common.{◌<◌, ◌^◌, ◌≡◌, ◌≤◌, Some, decimal, ℕ, rules}
use Rattle.five_tuple.specs.Exports.{tuple_number_up_to}
use Rattle.policy_rules.specs.declared.policy.Action.{Action}
use Rattle.policy_rules.specs.Exports.{HasSmallPolicyActionPort, policy_action_of, policy_action_text}
use Rattle.policy_rules.proofs.read.printed_rule_actions_read_back.Goals as goal

back : ((most n : ℕ) → n ≤ most → n < 2 ^ 64 → tuple_number_up_to most (decimal n) ≡ Some n)
    → (action : Action) → HasSmallPolicyActionPort action → policy_action_of (policy_action_text action) ≡ Some action
unfolding policy_action_of
back number action small = search rules

pub returns : goal.returns
returns c = back c.tuple_fields_read_back.ensures.number
