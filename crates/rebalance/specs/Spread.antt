-- The spread of partitions over switches by their weights, and the placement that is proposed.
-- Partitions take their turns by falling weight, and then by number.
use Rattle.std.specs.Prelude.{◌<◌, ◌≡◌, ◌≤◌, ◌⊎◌, All, List, length, ℕ}
use Rattle.placement.specs.Placement.{PlacementHasTargets, IsPlacement, IsPlacementRefused, PlacementTurnRule, placement_turn_rule}
use Rattle.placement.specs.declared.turns.Load.TheVariants as load
use Rattle.rebalance.specs.Loads.{RebalanceFits, bound, peak}

-- ---- the spread, and why there is none

-- by falling weight; a partition loads its first target with its weight
abbrev pub rebalance_spreading : List ℕ → List ℕ → List ℕ → ℕ → PlacementTurnRule
rebalance_spreading sizes weights rooms backups = placement_turn_rule load.OnFirst weights sizes rooms backups

abbrev pub IsRebalanceSpread : List ℕ → List ℕ → List ℕ → ℕ → List (List ℕ) → Type 0
IsRebalanceSpread sizes weights rooms backups placement =
    PlacementHasTargets (rebalance_spreading sizes weights rooms backups) placement

abbrev pub RebalanceSpreadFindsFewer : List ℕ → List ℕ → List ℕ → ℕ → ℕ → Type 0
RebalanceSpreadFindsFewer sizes weights rooms backups partition =
    IsPlacementRefused (rebalance_spreading sizes weights rooms backups) partition

-- ---- what is proposed

-- the peak of the spread is lower than that of the old placement, and so it is proposed
pub record IsRebalancedSpreadLower (sizes weights rooms : List ℕ) (backups : ℕ) (old new : List (List ℕ))
    : Type 0 where
  pub spread : IsRebalanceSpread sizes weights rooms backups new
  pub lower : peak weights new < peak weights old

-- no spread has a lower peak, and so the old placement stays
pub record RebalanceKeepsPlacement (sizes weights rooms : List ℕ) (backups : ℕ) (old new : List (List ℕ))
    : Type 0 where
  pub same : new ≡ old
  pub none : (other : List (List ℕ)) → IsRebalanceSpread sizes weights rooms backups other
      → peak weights old ≤ peak weights other

abbrev pub IsRebalanceProposal : List ℕ → List ℕ → List ℕ → ℕ → List (List ℕ) → List (List ℕ) → Type 0
IsRebalanceProposal sizes weights rooms backups old new =
    IsRebalancedSpreadLower sizes weights rooms backups old new ⊎ RebalanceKeepsPlacement sizes weights rooms backups old new

-- ---- what is true of each

-- the partitions have rules, and each has a weight; the switches have numbers below 64
pub record AreRebalancePartitionsWeighed (sizes weights rooms : List ℕ) : Type 0 where
  pub each : length sizes ≡ length weights
  pub some : All (λ size. 0 < size) sizes
  pub few : length rooms ≤ 64

pub record RebalanceSpreadLaws (sizes weights rooms : List ℕ) (backups : ℕ) : Type 0 where
  -- a spread fits, and so does a placement by size, as plans have it
  pub fits : (placement : List (List ℕ)) → IsRebalanceSpread sizes weights rooms backups placement
      → RebalanceFits sizes rooms backups placement
  pub placed : (placement : List (List ℕ)) → IsPlacement sizes rooms backups placement
      → RebalanceFits sizes rooms backups placement
  -- there is at most one spread; if a partition is refused there is none, and only one is refused
  pub one : (placement other : List (List ℕ)) → IsRebalanceSpread sizes weights rooms backups placement
      → IsRebalanceSpread sizes weights rooms backups other → placement ≡ other
  pub refused : (placement : List (List ℕ)) (partition : ℕ)
      → IsRebalanceSpread sizes weights rooms backups placement
      → RebalanceSpreadFindsFewer sizes weights rooms backups partition → ⊥
  pub first : (partition other : ℕ) → RebalanceSpreadFindsFewer sizes weights rooms backups partition
      → RebalanceSpreadFindsFewer sizes weights rooms backups other → partition ≡ other
  -- no placement that fits has a lower peak than the bound
  pub bounded : (placement : List (List ℕ)) → RebalanceFits sizes rooms backups placement
      → bound weights rooms ≤ peak weights placement
  -- the proposal fits if the old placement does, and its peak isn't higher
  pub proposed : (old new : List (List ℕ)) → RebalanceFits sizes rooms backups old
      → IsRebalanceProposal sizes weights rooms backups old new → RebalanceFits sizes rooms backups new
  pub never_higher : (old new : List (List ℕ)) → IsRebalanceProposal sizes weights rooms backups old new
      → peak weights new ≤ peak weights old
