-- The plan of the current version comes first.
use Rattle.std.proofs.Common.{◌∙◌, Some, ap, arith, sym}
use Rattle.controller.specs.Exports.{ControllerValue, controller_current_plan}
use Rattle.controller.proofs.ControllerKeptPlans.{current_kept, current_there}
use Rattle.controller.proofs.controller.Controller.current_plan.Goals as goal

pub index-requires : goal.index-requires
index-requires c =
    let own : ControllerValue =
    record { marks = c.self.inside.marks; plans = c.self.inside.versions.items } in
    omega (arith, current_there own c.self.invariant)

pub returns : goal.returns
returns c =
    let own : ControllerValue =
    record { marks = c.self.inside.marks; plans = c.self.inside.versions.items } in
    ap controller_current_plan (sym c.self.view_is)
    ∙ current_kept own c.self.invariant c.index.result.now c.index.ensures
    ∙ ap Some (sym c.plan.ensures)
