use Rattle.packet_laws.proofs.PacketPlayExistence.{together}
use Rattle.packet_laws.proofs.laws.packets_keep_versions_whole.Goals as goal

pub returns : goal.returns
returns c = together assumption
