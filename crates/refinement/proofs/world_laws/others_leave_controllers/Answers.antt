use Rattle.refinement.proofs.RefinedControllerResends.{items_leave, steps_leave}
use Rattle.refinement.proofs.world_laws.others_leave_controllers.Goals as goal

pub returns-clause-items : goal.returns-clause-items
returns-clause-items c = items_leave

pub returns-clause-steps : goal.returns-clause-steps
returns-clause-steps c = steps_leave
