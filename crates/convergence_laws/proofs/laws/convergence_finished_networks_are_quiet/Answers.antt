use Rattle.convergence_laws.proofs.ConvergenceNewsLaws.{finished_behind}
use Rattle.convergence_laws.proofs.laws.convergence_finished_networks_are_quiet.Goals as goal

pub returns : goal.returns
returns c = finished_behind
