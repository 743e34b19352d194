-- The plan that a controller keeps for the current version is the one in force.
use Rattle.std.proofs.Common.{◌+◌, ◌-◌, ◌==◌, ◌∙◌, ◌≡◌, List, Some, ap, cond, eq-eqb, find, map, option_map, refl, subst, suc, sym, zero, ℕ}
use Rattle.base.proofs.Exports.{range_with_len}
use Rattle.controller.specs.Exports.{ControllerValue, ControllerKeptPlan, ControllerPlanValue, controller_current_plan}
use Rattle.update_machine.specs.Exports.{MachineVersionHasPlan, IsMachineSetting, Item, Setting, journal_current_mark, journal_version_count}
use Rattle.partition.specs.Plan.{IsPartitionPlan}
use Rattle.refinement.specs.Exports.{IsRefinedController, refined_plan_to_keep}
use Rattle.update_machine.proofs.Exports.{begins_planned, version_is_planned}
use Rattle.control_laws.specs.Exports.{ControlMarksAreBounded, ControlVersionsArePlanned}
use Rattle.replay.specs.InForce.{IsReplayPlanInForce}

-- the first of the plans of the versions from one on is that one's
abbrev plans_of : Setting → List Item → ℕ → ℕ → List ControllerKeptPlan
plans_of setting journal first n = map (refined_plan_to_keep setting journal) (range_with_len first n)

first_found : (setting : Setting) (journal : List Item) (first n : ℕ) (plan : ControllerPlanValue)
    → option_map (λ (kept : ControllerKeptPlan). kept.plan)
    (find (λ (kept : ControllerKeptPlan). kept.version == first) (plans_of setting journal first n))
    ≡ Some plan → plan ≡ (refined_plan_to_keep setting journal first).plan
first_found setting journal first zero plan is = absurd cc
first_found setting journal first (suc n) plan is =
    let here : find (λ (kept : ControllerKeptPlan). kept.version == first)
    (plans_of setting journal first (suc n)) ≡ Some (refined_plan_to_keep setting journal first) =
    ap (λ b. cond b (Some (refined_plan_to_keep setting journal first))
    (find (λ (kept : ControllerKeptPlan). kept.version == first) (plans_of setting journal (first + 1) n)))
    (eq-eqb first first refl) in
    let same : Some (refined_plan_to_keep setting journal first).plan ≡ Some plan =
    sym (ap (option_map (λ (kept : ControllerKeptPlan). kept.plan)) here) ∙ is in
    cc

pub kept_in_force : (setting : Setting) (journal : List Item) (controller : ControllerValue)
    (plan : ControllerPlanValue) → IsMachineSetting setting → IsRefinedController setting journal controller
    → ControlMarksAreBounded setting journal → ControlVersionsArePlanned setting journal
    → controller_current_plan controller ≡ Some plan → IsReplayPlanInForce setting journal plan
kept_in_force setting journal controller plan sound is bounds planned kept =
    let current = journal_current_mark journal in
    let own : option_map (λ (kept : ControllerKeptPlan). kept.plan) (find (λ (kept : ControllerKeptPlan). kept.version
    == current) (plans_of setting journal current (journal_version_count journal + 1 - current)))
    ≡ Some plan = ap (λ plans. option_map (λ (kept : ControllerKeptPlan). kept.plan)
    (find (λ (kept : ControllerKeptPlan). kept.version == current) plans)) (sym is.plans)
    ∙ ap (λ mark. option_map (λ (kept : ControllerKeptPlan). kept.plan)
    (find (λ (kept : ControllerKeptPlan). kept.version == mark) controller.plans)) (sym is.marks.current)
    ∙ kept in
    let same = first_found setting journal current (journal_version_count journal + 1 - current) plan own in
    let has : MachineVersionHasPlan setting journal current =
    planned.planned (begins_planned setting sound) current bounds.first bounds.there in record {
      policy = ap (λ (p : ControllerPlanValue). p.policy) same;
      hosted = ap (λ (p : ControllerPlanValue). p.hosted) same;
      parts = subst (λ (p : ControllerPlanValue). IsPartitionPlan p.policy setting.net p.hosted) (sym same)
          (version_is_planned setting journal current sound has);
    }
