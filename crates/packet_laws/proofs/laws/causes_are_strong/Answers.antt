use Rattle.packet_laws.proofs.PacketsAtRest.{reached}
use Rattle.packet_laws.proofs.PacketStrongCauses.{strongly_caused}
use Rattle.packet_laws.proofs.laws.causes_are_strong.Goals as goal

pub returns : goal.returns
returns c = reached _ (λ setting journal is have. strongly_caused setting journal is have)
