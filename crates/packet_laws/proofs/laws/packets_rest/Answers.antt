use Rattle.packet_laws.proofs.PacketsAtRest.{between}
use Rattle.packet_laws.proofs.laws.packets_rest.Goals as goal

pub returns : goal.returns
returns c = between _ (λ setting journal is settled. settled.rests)
