use Rattle.refinement.proofs.RefinedSwitchKnowledge.{requirements_hold}
use Rattle.refinement.proofs.switch_laws.refined_calls_may_be_made.Goals as goal

pub returns : goal.returns
returns c = requirements_hold
