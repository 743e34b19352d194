-- Changes of policies, as operators give them: edits, each of which removes a row or adds one; and
-- what they make of a policy.
use Rattle.std.specs.Prelude.{if◌then◌else◌, ◌++◌, ◌<◌, ◌==◌, ◌^◌, ◌≢◌, All, AllPairs, Bool, Err, List, None, Ok, Option, Result, Some, filter, filter_map, length, nat_lt, not, ℕ}
use Rattle.base.specs.Exports.{list_all, list_any}
use Rattle.policy_rules.specs.SoundPolicies.{PolicyHasDistinctPriorities, IsSoundPolicyRow}
use Rattle.policy_rules.specs.declared.policy.Row.{Row}
use Rattle.policy_rules.specs.declared.amendment.Edit.{Edit}
use Rattle.policy_rules.specs.declared.amendment.Edit.TheVariants.{Remove, Add}
use Rattle.policy_rules.specs.declared.applying.Inapplicable.{Inapplicable}
use Rattle.policy_rules.specs.declared.applying.Inapplicable.TheVariants.{Absent, Taken, TooManyRows}

-- one of the rows has this priority
abbrev pub policy_has_priority : List Row → ℕ → Bool
policy_has_priority rows priority = list_any (λ row. row.priority == priority) rows

-- the priority of the row that the edit removes, if it removes one
abbrev pub policy_edit_removes : Edit → Option ℕ
policy_edit_removes (Remove priority) = Some priority
policy_edit_removes (Add row) = None

-- the row that it adds, if it adds one
abbrev pub policy_addition : Edit → Option Row
policy_addition (Remove priority) = None
policy_addition (Add row) = Some row

-- the priorities of the rows that edits remove, in order
abbrev pub policy_removals : List Edit → List ℕ
policy_removals edits = filter_map policy_edit_removes edits

-- the rows that they add, in order
abbrev pub policy_additions : List Edit → List Row
policy_additions edits = filter_map policy_addition edits

-- no priority is removed twice, and none is added twice
pub record ArePolicyEditsDistinct (edits : List Edit) : Type 0 where
  pub removed_once : AllPairs (λ priority later. priority ≢ later) (policy_removals edits)
  pub added_once : PolicyHasDistinctPriorities (policy_additions edits)

-- each field of the edit satisfies the invariant of its type
abbrev pub IsSoundPolicyEdit : Edit → Type 0
IsSoundPolicyEdit (Remove priority) = priority < 2 ^ 32
IsSoundPolicyEdit (Add row) = IsSoundPolicyRow row

-- what is true of the edits of each amendment
pub record IsPolicyAmendment (edits : List Edit) : Type 0 where
  pub sound : All IsSoundPolicyEdit edits
  pub distinct : ArePolicyEditsDistinct edits
  pub few : length edits < 2 ^ 32

-- one of the edits removes the row of this priority
abbrev pub policy_edits_remove : List Edit → ℕ → Bool
policy_edits_remove edits priority = list_any (λ removed. removed == priority) (policy_removals edits)

-- the rows that stay: those whose priorities the change doesn't remove
abbrev pub policy_rows_after_removal : List Row → List Edit → List Row
policy_rows_after_removal rows change = filter (λ row. not (policy_edits_remove change row.priority)) rows

-- the rows that stay, in order, and then those that the change adds
abbrev pub amended_policy_rows : List Row → List Edit → List Row
amended_policy_rows rows change = policy_rows_after_removal rows change ++ policy_additions change

-- the change removes a row that the policy doesn't have
abbrev pub policy_change_removes_absent : List Row → List Edit → Bool
policy_change_removes_absent rows change = not (list_all (policy_has_priority rows) (policy_removals change))

-- the change adds a row with the priority of one that stays
abbrev pub policy_change_adds_taken : List Row → List Edit → Bool
policy_change_adds_taken rows change =
    list_any (λ row. policy_has_priority (policy_rows_after_removal rows change) row.priority) (policy_additions change)

-- the rows of a policy with the change applied to it, or the first reason why there are none
unfoldable pub policy_change_applied : List Row → List Edit → Result (List Row) Inapplicable
policy_change_applied rows change =
    if policy_change_removes_absent rows change then Err Absent
    else if policy_change_adds_taken rows change then Err Taken
    else if nat_lt 2000 (length (amended_policy_rows rows change))
    then Err (TooManyRows (length (amended_policy_rows rows change)))
    else Ok (amended_policy_rows rows change)
