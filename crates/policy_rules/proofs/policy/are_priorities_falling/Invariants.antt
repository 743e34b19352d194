use Rattle.std.proofs.Common.{◌<◌, ◌≡◌, false, take, ℕ}
use Rattle.policy_rules.specs.Exports.{policy_has_priority}
use Rattle.policy_rules.proofs.PolicyDistinctRows.{AreSoFar}
use Rattle.policy_rules.proofs.policy.are_priorities_falling.Given as goal

abbrev pub invariant-loop-row : goal.invariant-loop-row
invariant-loop-row l = record {
  fresh : (q : ℕ) → q < l.above → policy_has_priority (take l.row-index l.rows) q ≡ false;
  so_far : AreSoFar l.rows l.row-index;
}
