use Rattle.packet_laws.proofs.PacketStrongCauses.{ends_caused}
use Rattle.packet_laws.proofs.PacketsAtRest.{reached}
use Rattle.packet_laws.proofs.laws.ends_have_causes.Goals as goal

pub returns : goal.returns
returns c = reached _ (λ setting journal is have. ends_caused setting journal is have)
