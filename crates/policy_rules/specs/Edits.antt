-- How changes of policies are built, and why edits are no amendment.
use Rattle.std.specs.Prelude.{◌++◌, ◌+◌, ◌<◌, ◌≡◌, Bool, IsTrue, List, length, map, slice_index_or, take, ℕ}
use Rattle.policy_rules.specs.Applied.{ArePolicyEditsDistinct, IsPolicyAmendment, policy_additions, policy_has_priority, policy_removals, policy_edits_remove}
use Rattle.policy_rules.specs.declared.policy.Row.{Row}
use Rattle.policy_rules.specs.declared.amendment.Edit.{Edit}
use Rattle.policy_rules.specs.declared.amendment.Edit.TheVariants.{Remove, Add}
use Rattle.policy_rules.specs.declared.amendment.Repeated.{Repeated}

-- the edits that remove the rows of these priorities and then add these rows
abbrev pub policy_edits_of : List ℕ → List Row → List Edit
policy_edits_of removed added = map Remove removed ++ map Add added

-- one of the edits adds a row of this priority
abbrev pub policy_edits_add : List Edit → ℕ → Bool
policy_edits_add edits priority = policy_has_priority (policy_additions edits) priority

-- an earlier edit did the same at this edit's priority: it removed the row, or added one
abbrev pub policy_edit_repeats : List Edit → Edit → Bool
policy_edit_repeats earlier (Remove priority) = policy_edits_remove earlier priority
policy_edit_repeats earlier (Add row) = policy_edits_add earlier row.priority

-- the edits of an amendment, with what they remove and add
pub record ArePolicyEditsHeld (edits : List Edit) (removed : List ℕ) (added : List Row) : Type 0 where
  pub amendment : IsPolicyAmendment edits
  pub is_removed : removed ≡ policy_removals edits
  pub is_added : added ≡ policy_additions edits

-- the tests are true of exactly the priorities of the rows that these edits remove, and of those
-- that they add
pub record ArePolicyEditsSeen (removed added : ℕ → Bool) (edits : List Edit) : Type 0 where
  pub of_removed : (priority : ℕ) → removed priority ≡ policy_edits_remove edits priority
  pub of_added : (priority : ℕ) → added priority ≡ policy_edits_add edits priority

-- the edit at this place is the first that repeats an earlier one
pub record IsFirstRepeatedPolicyEdit (edits : List Edit) (place : ℕ) : Type 0 where
  pub there : place < length edits
  pub repeated : (d : Edit) → IsTrue (policy_edit_repeats (take place edits) (slice_index_or edits place d))
  pub first : ArePolicyEditsDistinct (take place edits)

-- why these edits are no amendment: one, counted from 1, repeats an earlier one
abbrev pub RefusesPolicyEdits : List Edit → Repeated → Type 0
RefusesPolicyEdits edits same = (place : ℕ) × (same.edit ≡ place + 1) × IsFirstRepeatedPolicyEdit edits place
