-- The files of policies, each of which has a policy, or a change of one.
use Rattle.std.specs.Prelude.{All, ⊤}
use Rattle.policy_rules.specs.Applied.{IsPolicyAmendment}
use Rattle.policy_rules.specs.SoundPolicies.{IsPolicy}
use Rattle.policy_rules.specs.declared.policy.Row.{Row}
use Rattle.policy_rules.specs.declared.amendment.Edit.{Edit}
use Rattle.policy_rules.specs.declared.amendment.Edit.TheVariants.{Remove, Add}
use Rattle.policy_rules.specs.declared.file.PolicyFile.{PolicyFile}
use Rattle.policy_rules.specs.declared.file.PolicyFile.TheVariants.{Whole, Change}

-- what is true of each file
abbrev pub IsSoundPolicyFile : PolicyFile → Type 0
IsSoundPolicyFile (Whole rows) = IsPolicy rows
IsSoundPolicyFile (Change edits) = IsPolicyAmendment edits

-- the row that the edit adds, if it adds one, has this property
abbrev pub PolicyEditAddsOnly : (Row → Type 0) → Edit → Type 0
PolicyEditAddsOnly P (Remove priority) = ⊤
PolicyEditAddsOnly P (Add row) = P row

-- each row that the file states, of a policy or added by a change, has this property
abbrev pub PolicyFileRowsAre : (Row → Type 0) → PolicyFile → Type 0
PolicyFileRowsAre P (Whole rows) = All P rows
PolicyFileRowsAre P (Change edits) = All (PolicyEditAddsOnly P) edits
