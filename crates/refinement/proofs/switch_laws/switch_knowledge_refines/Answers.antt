use Rattle.refinement.proofs.RefinedSwitchKnowledge.{knowledge_refines}
use Rattle.refinement.proofs.switch_laws.switch_knowledge_refines.Goals as goal

pub returns : goal.returns
returns c = knowledge_refines
