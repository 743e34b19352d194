use Rattle.forwarding_laws.proofs.RecoveredNetworks.{recovered_neighbours}
use Rattle.forwarding_laws.proofs.recovery.recovered_neighbours_agree.Goals as goal

pub returns : goal.returns
returns c = recovered_neighbours
