use Rattle.packet_laws.proofs.PacketsAllKept.{all_kept}
use Rattle.packet_laws.proofs.PacketStrongCauses.{packets_arrive}
use Rattle.packet_laws.proofs.PacketsAtRest.{reached}
use Rattle.packet_laws.proofs.laws.packets_arrive.Goals as goal

pub returns : goal.returns
returns c = reached _
    (λ setting journal is have. packets_arrive setting journal (all_kept setting journal is have))
