use Rattle.forwarding_laws.proofs.RecoverySecondRounds.{recovered_caches}
use Rattle.forwarding_laws.proofs.recovery.recovered_caches_are_new.Goals as goal

pub returns : goal.returns
returns c = recovered_caches c.cache_rules_are_right.ensures
