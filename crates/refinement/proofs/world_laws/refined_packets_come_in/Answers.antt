use Rattle.refinement.proofs.RefinedPacketTable.{entries_refine}
use Rattle.refinement.proofs.world_laws.refined_packets_come_in.Goals as goal

pub returns : goal.returns
returns c = entries_refine
