use Rattle.std.proofs.Common.{◌≡◌, nat_cmp, take, ℕ}
use Rattle.base.proofs.Exports.{contains}
use Rattle.policy_rules.specs.Exports.{policy_has_priority}
use Rattle.policy_rules.proofs.PolicyDistinctRows.{AreSoFar}
use Rattle.policy_rules.proofs.policy.check_policy_row_priorities.Given as goal

abbrev pub invariant-loop-row : goal.invariant-loop-row
invariant-loop-row l = record {
  counts : l.number ≡ l.row-index;
  seen : (q : ℕ) → contains nat_cmp l.seen q ≡ policy_has_priority (take l.row-index l.rows) q;
  so_far : AreSoFar l.rows l.row-index;
}
