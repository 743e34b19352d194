use Rattle.packet_laws.proofs.PacketsAllKept.{all_kept}
use Rattle.packet_laws.proofs.PacketsAtRest.{reached}
use Rattle.packet_laws.proofs.laws.items_keep_packets.Goals as goal

pub returns : goal.returns
returns c = reached _ (λ setting journal is have. all_kept setting journal is have)
