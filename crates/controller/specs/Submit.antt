-- What a controller is after a plan was submitted, or refused.
use Rattle.std.specs.Prelude.{[], ◌++◌, ◌+◌, ◌∷◌, ◌≡◌, ◌⊎◌, List}
use Rattle.version_update.specs.Exports.{version_marks_with_version}
use Rattle.base.specs.declared.error.Failure.{Failure}
use Rattle.base.specs.declared.error.Failure.TheVariants.{Refused, NoMemory}
use Rattle.version_update.specs.declared.marks.SubmitError.{SubmitError}
use Rattle.controller.specs.Plan.{ControllerPlanValue}
use Rattle.controller.specs.Controller.{ControllerValue, ControllerKeptPlan, ControllerSettlesWith}
use Rattle.ternary.specs.Exports.{WordValue}

-- one more version with this plan, whose change touches this
abbrev pub controller_next_kept_plan : ControllerValue → ControllerPlanValue → List WordValue → ControllerKeptPlan
controller_next_kept_plan old plan touched = record {
  version = old.marks.count + 1;
  plan = plan;
  touched = touched;
}

-- the controller after it added this version
abbrev pub ControllerSubmitsPlan : ControllerValue → ControllerKeptPlan → ControllerValue → Type 0
ControllerSubmitsPlan old next new = ControllerSettlesWith (version_marks_with_version old.marks) (old.plans ++ next ∷ []) new

-- a refusal changes nothing; if memory ran out, either nothing changed, or the version is added
-- and what it causes is lost
abbrev pub IsControllerLeftByRefusal : ControllerValue → ControllerKeptPlan → ControllerValue → Failure SubmitError → Type 0
IsControllerLeftByRefusal old next new (Refused refusal) = new ≡ old
IsControllerLeftByRefusal old next new NoMemory = (new ≡ old) ⊎ ControllerSubmitsPlan old next new
