use Rattle.std.proofs.Common.{take}
use Rattle.policy_rules.specs.Exports.{IsHighestPolicyMatch}
use Rattle.policy_rules.proofs.policy.highest_match.Given as goal

abbrev pub invariant-loop-row : goal.invariant-loop-row
invariant-loop-row l = IsHighestPolicyMatch (take l.row-index l.rows) l.fields l.best
