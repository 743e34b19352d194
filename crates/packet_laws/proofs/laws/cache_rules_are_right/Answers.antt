use Rattle.packet_laws.proofs.PacketsAllKept.{all_kept}
use Rattle.packet_laws.proofs.PacketsAtRest.{reached}
use Rattle.packet_laws.proofs.PacketHopAnswers.{rules_right}
use Rattle.packet_laws.proofs.laws.cache_rules_are_right.Goals as goal

pub returns : goal.returns
returns c = reached _
    (λ setting journal is have. rules_right setting journal (all_kept setting journal is have))
