use Rattle.refinement.proofs.RefinedSwitchSteps.{calls_refine}
use Rattle.refinement.proofs.switch_laws.refined_calls_are_counted.Goals as goal

pub returns : goal.returns
returns c = calls_refine
