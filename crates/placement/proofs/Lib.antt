mod PlacementOrder
mod PlacementFirsts
mod PlacementTurns
mod PlacementLemmas
pub mod PlacementCallerLemmas
