-- The controller, as a journal has it: its marks, and the plans of the versions that it may still
-- install, in the two-phase update of Reitblatt, Foster, Rexford, Schlesinger and Walker,
-- "Abstractions for Network Update", SIGCOMM 2012.
use Rattle.std.specs.Prelude.{◌≡◌, List, Ok, map, ℕ}
use Rattle.controller.specs.Exports.{ControllerValue, ControllerKeptPlan, ControllerPlanValue}
use Rattle.update_machine.specs.Exports.{Item, Setting, journal_next_policy, journal_next_touched, journal_plan_at, machine_policy_at, machine_touched_by, journal_versions_from_current}
use Rattle.refinement.specs.Marks.{AreMarksRefined}
use Rattle.ternary.specs.Exports.{WordValue}

-- a version with its policy and its plan, and what its change touches
abbrev pub refined_plan_to_keep : Setting → List Item → ℕ → ControllerKeptPlan
refined_plan_to_keep setting journal version = record {
  version = version;
  plan = record {
    policy = machine_policy_at setting journal version;
    hosted = journal_plan_at setting journal version;
  };
  touched = machine_touched_by setting journal version;
}

-- the marks are those that the journal says, and the plans those of the versions from the current
-- one to the last
pub record IsRefinedController (setting : Setting) (journal : List Item)
    (controller : ControllerValue) : Type 0 where
  pub marks : AreMarksRefined setting journal controller.marks
  pub plans : controller.plans ≡ map (refined_plan_to_keep setting journal) (journal_versions_from_current journal)

-- the plan is that of the next version, if this file is submitted, and these are the words that
-- the file touches
pub record IsNextPlanRefined (setting : Setting) (journal : List Item) (file : ℕ) (plan : ControllerPlanValue)
    (touched : List WordValue) : Type 0 where
  pub policy : journal_next_policy setting journal file ≡ Ok plan.policy
  pub hosted : setting.plan plan.policy ≡ Ok plan.hosted
  pub touches : touched ≡ journal_next_touched setting journal file
