-- What proofs above cite, also of the crate below.
pub use Rattle.control_laws.proofs.ControlFactsGrown.{AreKept, Behind, Both, fact_on, have_both, have_rest, have_weaker, piece_has}
pub use Rattle.control_laws.proofs.ControlMarksAtEnds.{NamesOwn}
pub use Rattle.control_laws.specs.Always.{ControlLawHoldsAtEnds}
pub use Rattle.control_laws.proofs.ControlTrafficItems.{IsWork, hop_work, packet_works, rule_cases}
pub use Rattle.convergence_laws.proofs.ConvergenceLinkChanges.{near_back}
pub use Rattle.convergence_laws.proofs.ConvergedKnownLinks.{reach_more}
pub use Rattle.convergence_laws.proofs.ConvergencePlainItems.{moves}
pub use Rattle.convergence_laws.proofs.ConvergedStuckPackets.{StaysSo, Walks, stays_itself, stays_on}
