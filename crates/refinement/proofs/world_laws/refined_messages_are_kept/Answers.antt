use Rattle.refinement.proofs.RefinedPacketTable.{bags_refine}
use Rattle.refinement.proofs.world_laws.refined_messages_are_kept.Goals as goal

pub returns : goal.returns
returns c = bags_refine
