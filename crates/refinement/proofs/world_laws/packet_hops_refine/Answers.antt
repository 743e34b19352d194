use Rattle.refinement.proofs.RefinedPacketTable.{hops_refine}
use Rattle.refinement.proofs.world_laws.packet_hops_refine.Goals as goal

pub returns : goal.returns
returns c = hops_refine
