use Rattle.convergence_laws.proofs.ConvergenceNewsLaws.{quiet_converged}
use Rattle.convergence_laws.proofs.laws.quiet_networks_have_converged.Goals as goal

pub returns : goal.returns
returns c = quiet_converged
