use Rattle.forwarding_laws.proofs.RecoveredNetworks.{flushed_all}
use Rattle.forwarding_laws.proofs.recovery.forwarding_flushes_deliver_all.Goals as goal

pub returns : goal.returns
returns c = flushed_all
