use Rattle.packet_laws.proofs.PacketFlushMessages.{numbers_rise}
use Rattle.packet_laws.proofs.laws.deliveries_rise.Goals as goal

pub returns : goal.returns
returns c = numbers_rise
