-- Rows in the order of their priorities, and why rows are no policy.
use Rattle.std.specs.Prelude.{◌+◌, ◌<◌, ◌≡◌, ◌≤◌, AllPairs, IsTrue, List, length, slice_index_or, take, ℕ}
use Rattle.policy_rules.specs.Applied.{policy_has_priority}
use Rattle.policy_rules.specs.declared.policy.Row.{Row}
use Rattle.policy_rules.specs.declared.policy.SamePriority.{SamePriority}
use Rattle.policy_rules.specs.SoundPolicies.{PolicyHasDistinctPriorities}

-- no row exceeds an earlier one in priority
abbrev pub IsPolicyPriorityFalling : List Row → Type 0
IsPolicyPriorityFalling rows = AllPairs (λ row later. later.priority ≤ row.priority) rows

-- the row at this place is the first that has an earlier row's priority
pub record IsFirstPolicyPriorityRepeat (rows : List Row) (place : ℕ) : Type 0 where
  pub there : place < length rows
  pub repeats : (d : Row)
      → IsTrue (policy_has_priority (take place rows) (slice_index_or rows place d).priority)
  pub first : PolicyHasDistinctPriorities (take place rows)

-- why these rows are no policy: one, counted from 1, repeats a priority
abbrev pub RefusesSamePriorityPolicyRows : List Row → SamePriority → Type 0
RefusesSamePriorityPolicyRows rows same = (place : ℕ) × (same.row ≡ place + 1) × IsFirstPolicyPriorityRepeat rows place
