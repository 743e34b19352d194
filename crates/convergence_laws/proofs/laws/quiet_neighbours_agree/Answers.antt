use Rattle.convergence_laws.proofs.ConvergenceNewsLaws.{quiet_at_ends}
use Rattle.convergence_laws.proofs.laws.quiet_neighbours_agree.Goals as goal

pub returns : goal.returns
returns c = quiet_at_ends
