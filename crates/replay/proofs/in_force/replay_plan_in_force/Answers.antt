use Rattle.std.proofs.Common.{◌∙◌, Some, ap, subst, sym}
use Rattle.control_laws.specs.Exports.{ControlMarksAreBounded, ControlVersionsArePlanned}
use Rattle.controller.specs.Exports.{controller_current_plan}
use Rattle.world.specs.Exports.{world_setting_at}
use Rattle.replay.proofs.ReplayPlanInForce.{kept_in_force}
use Rattle.replay.proofs.ReplayedWorld.{tie_of}
use Rattle.replay.proofs.in_force.replay_plan_in_force.Goals as goal

pub returns : goal.returns
returns c =
    let world = c.args.world.now in
    let setting = world_setting_at world in
    let tie = tie_of world (c.refines.ensures c.requires) in
    let bounds : ControlMarksAreBounded setting world.journal =
    subst (ControlMarksAreBounded setting) (sym tie.reached.written)
    (c.marks_are_bounded.ensures.behind.ends.stepped setting tie.reached.steps) in
    let planned : ControlVersionsArePlanned setting world.journal =
    subst (ControlVersionsArePlanned setting) (sym tie.reached.written)
    (c.versions_are_planned.ensures.behind.ends.stepped setting tie.reached.steps) in
    kept_in_force setting world.journal world.controller c.in_ok-plan.plan tie.sound tie.controller
    bounds planned
    (ap controller_current_plan (sym c.controller.ensures) ∙ c.current_plan.ensures
    ∙ ap Some (sym c.in_ok-plan.ensures.cases))
