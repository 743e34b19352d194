-- The definitions that the laws of this crate use, passed on from the files that define them.
pub use Rattle.convergence_laws.specs.Converged.{AreConvergenceUnusableLinks, HasConverged, ConvergenceLeadsOverUsableNeighbours, ConvergenceReaches}
pub use Rattle.convergence_laws.specs.Finished.{EndsInFinishedConvergenceNetwork, IsConvergenceNetworkFinished}
pub use Rattle.convergence_laws.specs.News.{HoldsConvergenceAdvertAsNew, IsConvergenceAdvertAsNew, ConvergenceNeighboursAgree, ConvergenceNewsSpreads}
pub use Rattle.convergence_laws.specs.Stuck.{ConvergedGetStuckApart}
pub use Rattle.convergence_laws.specs.Updated.{IsNetworkUpdated}
