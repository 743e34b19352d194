-- The policy files, and the plans of the policies that they have or make on a network.
use Rattle.std.specs.Prelude.{[], ◌∷◌, ◌≡◌, ◌⊎◌, Err, IsSome, List, None, Ok, Option, Result, Some, length, slice_index_or, ℕ}
use Rattle.net_file.specs.Exports.{IsNet}
use Rattle.update_machine.specs.Exports.{Change, Inapplicable, Net, PolicyFile, Row, Whole, machine_apply_code, machine_policy_made_by, machine_plan_code, machine_touched_of}
use Rattle.partition.specs.Plan.{partition_plan_of}
use Rattle.policy_rules.specs.Hosted as no_plan
use Rattle.policy_rules.specs.Exports.{NoPolicyPlan}
use Rattle.controller.specs.Exports.{ControllerPlanValue}
use Rattle.controller.specs.declared.plan_error.PlanError.{PlanError}
use Rattle.controller.specs.declared.plan_error.PlanError.TheVariants as plan_error
use Rattle.ternary.specs.Exports.{WordValue}
use Rattle.world.specs.declared.files.Compiled.{Compiled}
use Rattle.world.specs.declared.files.Compiled.TheVariants.{Planned, Refused}

-- the files, and the policy of the newest version
pub record WorldFilesValue : Type 0 where
  pub net : Net
  pub files : List PolicyFile
  pub newest : List Row

-- the file's own policy, if it is no change
abbrev pub world_file_own_policy : PolicyFile → Option (List Row)
world_file_own_policy (Whole rows) = Some rows
world_file_own_policy (Change edits) = None

-- the policy of the first file
abbrev pub world_first_file_policy : List PolicyFile → Option (List Row)
world_first_file_policy [] = None
world_first_file_policy (first ∷ files) = world_file_own_policy first

-- the file at a place; a change without edits if there is none
abbrev pub world_file_or_none : List PolicyFile → ℕ → PolicyFile
world_file_or_none files place = slice_index_or files place (Change [])

-- what a file makes of a policy, and what it touches of that policy
abbrev pub WorldFileMaking : Type 0
WorldFileMaking = Result (List Row) Inapplicable × List WordValue

abbrev pub world_file_made_from : PolicyFile → List Row → WorldFileMaking
world_file_made_from file newest = (machine_policy_made_by (Some file) (Some newest), machine_touched_of (Some file) (Some newest))

-- what the file at a place makes of the newest policy
abbrev pub world_file_made_at : List PolicyFile → List Row → ℕ → WorldFileMaking
world_file_made_at files newest place = world_file_made_from (world_file_or_none files place) newest

-- the code of why rows have no plan; none if memory ran out
abbrev pub world_plan_code_of : PlanError → Option ℕ
world_plan_code_of (plan_error.TooManyWords words) = Some (machine_plan_code (no_plan.TooManyWords words))
world_plan_code_of plan_error.TooManyLeaves = Some (machine_plan_code no_plan.TooManyLeaves)
world_plan_code_of (plan_error.NoRoom partition) = Some (machine_plan_code (no_plan.NoRoom partition))
world_plan_code_of plan_error.NoMemory = None

-- these rows have no plan, for the reason with this code
pub record WorldHasNoPlan (net : Net) (rows : List Row) (code : ℕ) : Type 0 where
  pub why : NoPolicyPlan
  pub none : partition_plan_of rows net ≡ Err why
  pub code_is : machine_plan_code why ≡ code

-- the policy has this plan, and the words are those that the file touches
pub record WorldHasThisPlan (net : Net) (making : WorldFileMaking) (plan : ControllerPlanValue) (told : List WordValue)
    : Type 0 where
  pub policy : making.0 ≡ Ok plan.policy
  pub planned : partition_plan_of plan.policy net ≡ Ok plan.hosted
  pub told_is : told ≡ making.1

-- what a file makes compiles to this: the plan of its policy, or the code of why there is no
-- policy or no plan
abbrev pub IsWorldFileCompiled : Net → WorldFileMaking → Compiled → Type 0
IsWorldFileCompiled net making (Planned plan told) = WorldHasThisPlan net making plan told
IsWorldFileCompiled net making (Refused code) =
    ((why : Inapplicable) × (making.0 ≡ Err why) × (machine_apply_code why ≡ code))
    ⊎ ((rows : List Row) × (making.0 ≡ Ok rows) × WorldHasNoPlan net rows code)

-- for each file that was compiled, the result that is kept is that for this newest policy
pub record AreWorldFilesCompiled (net : Net) (files : List PolicyFile) (newest : List Row)
    (kept : List (Option Compiled)) : Type 0 where
  pub sound : IsNet net
  pub many : length kept ≡ length files
  pub each : (place : ℕ) (compiled : Compiled) → slice_index_or kept place None ≡ Some compiled
      → IsWorldFileCompiled net (world_file_made_at files newest place) compiled

-- what is still kept was kept before, and belongs to a file with its own policy
pub record WorldFilesKeepWhole (files : List PolicyFile) (old new : List (Option Compiled)) : Type 0 where
  pub many : length new ≡ length old
  pub each : (place : ℕ) (compiled : Compiled) → slice_index_or new place None ≡ Some compiled
      → (slice_index_or old place None ≡ Some compiled)
      × IsSome (world_file_own_policy (world_file_or_none files place))
