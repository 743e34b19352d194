use Rattle.refinement.proofs.RefinedControllerCalls.{begins}
use Rattle.refinement.proofs.world_laws.refined_controllers_begin.Goals as goal

pub returns : goal.returns
returns c = begins
