use Rattle.placement.proofs.PlacementLemmas.{placement_meets, placement_is, refusal_is}
use Rattle.placement.proofs.placement_laws.Goals as goal

pub returns : goal.returns
returns c = record { meets = placement_meets; one = placement_is; refused = refusal_is }
