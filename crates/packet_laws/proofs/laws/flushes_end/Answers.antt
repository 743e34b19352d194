use Rattle.packet_laws.proofs.PacketPlayExistence.{flush_goes}
use Rattle.packet_laws.proofs.laws.flushes_end.Goals as goal

pub returns : goal.returns
returns c = flush_goes
