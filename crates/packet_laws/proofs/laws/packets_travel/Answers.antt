use Rattle.packet_laws.proofs.PacketsAtRest.{between}
use Rattle.packet_laws.proofs.PacketHopAnswers.{packets_travel}
use Rattle.packet_laws.proofs.laws.packets_travel.Goals as goal

pub returns : goal.returns
returns c = between _ (λ setting journal is settled. packets_travel setting journal is settled)
