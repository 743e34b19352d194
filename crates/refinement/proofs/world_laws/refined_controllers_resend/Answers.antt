use Rattle.refinement.proofs.RefinedControllerResends.{resends, resends_nothing, resends_some}
use Rattle.refinement.proofs.world_laws.refined_controllers_resend.Goals as goal

pub returns : goal.returns
returns c = record { messages = resends; nothing = resends_nothing; some = resends_some }
