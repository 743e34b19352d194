use Rattle.convergence_laws.proofs.ConvergenceNewsLaws.{converged_at_ends}
use Rattle.convergence_laws.proofs.laws.agreeing_networks_have_converged.Goals as goal

pub returns : goal.returns
returns c = converged_at_ends
