use Rattle.refinement.proofs.RefinedControllerCalls.{confirms}
use Rattle.refinement.proofs.world_laws.refined_controllers_confirm.Goals as goal

pub returns : goal.returns
returns c = confirms
