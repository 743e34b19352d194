-- A controller: the marks of the versions, and the plans of those that a later call can name.
use Rattle.std.specs.Prelude.{[], ◌+◌, ◌-◌, ◌==◌, ◌∷◌, ◌≡◌, All, List, Option, filter, find, length, map, nat_le, option_map, ℕ}
use Rattle.base.specs.Exports.{option_map_or, range_with_len}
use Rattle.policy_rules.specs.declared.policy.Row.{Row}
use Rattle.switch_table.specs.Exports.{cache_all_touched, tables_of}
use Rattle.switch_table.specs.declared.tables.Tables.{Tables}
use Rattle.version_update.specs.Exports.{AreVersionMarksSettled, MarksValue, SettlesVersionMarks, first_marks}
use Rattle.version_update.specs.declared.marks.Settled.{Settled}
use Rattle.controller.specs.Plan.{ControllerPlanValue, IsSoundControllerPlan}
use Rattle.ternary.specs.Exports.{WordValue}

-- a version with its plan, and what the change that made it touches
pub record ControllerKeptPlan : Type 0 where
  pub version : ℕ
  pub plan : ControllerPlanValue
  pub touched : List WordValue

-- the plans are in order of ascending version
pub record ControllerValue : Type 0 where
  pub marks : MarksValue
  pub plans : List ControllerKeptPlan

-- the tables of each of this many switches, by its number
abbrev pub controller_tables_by_switch : ControllerKeptPlan → ℕ → List Tables
controller_tables_by_switch kept switches =
    map (tables_of kept.plan.hosted kept.version) (range_with_len 0 switches)

-- the tables that the plan of a version gives a switch, if the plan is kept
abbrev pub controller_kept_plan_tables : ControllerValue → ℕ → ℕ → Option Tables
controller_kept_plan_tables controller version s =
    option_map (λ (kept : ControllerKeptPlan). tables_of kept.plan.hosted kept.version s)
    (find (λ (kept : ControllerKeptPlan). kept.version == version) controller.plans)

-- the policy of the newest version, whose plan is always kept
abbrev pub controller_newest_policy : ControllerValue → Option (List Row)
controller_newest_policy controller =
    option_map (λ (kept : ControllerKeptPlan). kept.plan.policy)
    (find (λ (kept : ControllerKeptPlan). kept.version == controller.marks.count) controller.plans)

-- the plan of the current version, which is always kept too
abbrev pub controller_current_plan : ControllerValue → Option ControllerPlanValue
controller_current_plan controller =
    option_map (λ (kept : ControllerKeptPlan). kept.plan)
    (find (λ (kept : ControllerKeptPlan). kept.version == controller.marks.current) controller.plans)

-- what the change of a version touches; everything, if its plan isn't kept
abbrev pub controller_kept_plan_touched : List ControllerKeptPlan → ℕ → List WordValue
controller_kept_plan_touched plans version =
    option_map_or (λ (kept : ControllerKeptPlan). kept.touched)
    (find (λ (kept : ControllerKeptPlan). kept.version == version) plans) cache_all_touched

-- what the change of the current version touches; its plan is always kept
abbrev pub controller_current_plan_touched : ControllerValue → List WordValue
controller_current_plan_touched controller = controller_kept_plan_touched controller.plans controller.marks.current

-- at the start every switch has version 1
abbrev pub controller_at_start : ℕ → ControllerPlanValue → ControllerValue
controller_at_start switches plan = record {
  marks = first_marks switches;
  plans = (record { version = 1; plan = plan; touched = cache_all_touched }) ∷ [];
}

-- the versions from the current one to the last
abbrev pub controller_live_versions : MarksValue → List ℕ
controller_live_versions marks = range_with_len marks.current (marks.count + 1 - marks.current)

-- the plans are those of the versions from the current one to the last: no later call names an
-- earlier one
pub record IsSoundController (controller : ControllerValue) : Type 0 where
  pub marks : AreVersionMarksSettled controller.marks
  pub sound : All (λ kept. IsSoundControllerPlan kept.plan) controller.plans
  pub versions : (map (λ kept. kept.version) controller.plans ≡ controller_live_versions controller.marks)

-- still a controller, of the same switches
pub record ControllerStaysSound (old new : ControllerValue) : Type 0 where
  pub controller : IsSoundController new
  pub switches : length new.marks.switches ≡ length old.marks.switches

-- the marks settle, whichever switches are sent to
abbrev pub ControllerSettlesMarks : MarksValue → MarksValue → Type 0
ControllerSettlesMarks before after = (answer : Settled) × SettlesVersionMarks before after answer

-- the plans from this version on
abbrev pub controller_kept_plans_from : ℕ → List ControllerKeptPlan → List ControllerKeptPlan
controller_kept_plans_from version plans = filter (λ kept. nat_le version kept.version) plans

-- from these marks and plans on: the marks settle, and the plans of the versions before the
-- current one are dropped
pub record ControllerSettlesWith (before : MarksValue) (kept : List ControllerKeptPlan)
    (new : ControllerValue) : Type 0 where
  pub marks : ControllerSettlesMarks before new.marks
  pub plans : new.plans ≡ controller_kept_plans_from new.marks.current kept
