use Rattle.convergence_laws.proofs.ConvergenceNewsLaws.{flushed_converged, flushed_quiet, flushed_updated}
use Rattle.convergence_laws.proofs.laws.flushed_networks_have_converged.Goals as goal

pub returns : goal.returns
returns c = record {
  quiet = flushed_quiet;
  converged = flushed_converged;
  updated = flushed_updated;
}
