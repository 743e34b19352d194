-- What proofs above cite: of numbers in an order, of the first with a property, and of placements
-- one partition after another, whatever loads they weigh.
pub use Rattle.placement.proofs.PlacementOrder.{each_by_count, range-within}
pub use Rattle.placement.proofs.PlacementFirsts.{first_distinct, first_there}
pub use Rattle.placement.proofs.PlacementTurns.{hosted_fits, hosted_or_refused, none_yet, overwritten, same_hosted, same_refused, sum-filter, sum_none}
pub use Rattle.placement.proofs.PlacementLemmas.{placement_meets}
