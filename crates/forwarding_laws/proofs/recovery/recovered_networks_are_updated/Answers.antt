use Rattle.forwarding_laws.proofs.RecoveredNetworks.{recovered_updated}
use Rattle.forwarding_laws.proofs.recovery.recovered_networks_are_updated.Goals as goal

pub returns : goal.returns
returns c = recovered_updated
