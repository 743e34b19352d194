use Rattle.convergence_laws.proofs.ConvergenceUpdates.{updated_at_ends}
use Rattle.convergence_laws.proofs.laws.quiet_networks_are_updated.Goals as goal

pub returns : goal.returns
returns c = updated_at_ends
