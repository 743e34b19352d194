use Rattle.convergence_laws.proofs.ConvergenceNewsLaws.{apart_at_ends, quiet_apart}
use Rattle.convergence_laws.proofs.laws.stuck_apart_when_neighbours_agree.Goals as goal

pub returns : goal.returns
returns c = record { agreed = apart_at_ends; quiet = quiet_apart }
