use Rattle.packet_laws.proofs.PacketsAtRest.{reached}
use Rattle.packet_laws.proofs.PacketMachineRuns.{caused_is_run}
use Rattle.packet_laws.proofs.laws.answers_are_runs.Goals as goal

pub returns : goal.returns
returns c = reached _ (λ setting journal is have. caused_is_run setting journal is have)
