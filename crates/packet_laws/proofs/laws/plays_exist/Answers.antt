use Rattle.packet_laws.proofs.PacketPlayExistence.{has_play}
use Rattle.packet_laws.proofs.laws.plays_exist.Goals as goal

pub returns : goal.returns
returns c = has_play
