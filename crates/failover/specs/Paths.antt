-- Routes by paths: the first target that a path reaches, by the fewest links, and of those the
-- least list.
use Rattle.std.specs.Prelude.{[], ◌<◌, ◌∷◌, ◌≡◌, ◌≢◌, ◌≤◌, ◌⊎◌, IsSomeAnd, List, None, Option, length, ℕ, ⊤}
use Rattle.failover.specs.Links.{AreJoinedByFailoverLinks, IsFailoverPath, IsFailoverReachable}

-- the target is another switch, at which no link ends
pub record IsFailoverTargetIsolated (links : List ℕ) (at target : ℕ) : Type 0 where
  pub other : target ≢ at
  pub linkless : (one : ℕ) → AreJoinedByFailoverLinks links one target → ⊥

-- the first list is the same or less, compared from the front
abbrev pub IsFailoverPathAtMost : List ℕ → List ℕ → Type 0
IsFailoverPathAtMost [] others = ⊤
IsFailoverPathAtMost (x ∷ xs) [] = ⊥
IsFailoverPathAtMost (x ∷ xs) (y ∷ ys) = (x < y) ⊎ ((x ≡ y) × IsFailoverPathAtMost xs ys)

-- a path with the fewest links, and of those the least
pub record IsLeastFailoverPath (links : List ℕ) (from target : ℕ) (route : List ℕ) : Type 0 where
  pub path : IsFailoverPath links from target route
  pub fewest : (other : List ℕ) → IsFailoverPath links from target other → length route ≤ length other
  pub least : (other : List ℕ) → IsFailoverPath links from target other → length other ≡ length route →
      IsFailoverPathAtMost route other

-- the least path to the first of the targets that a path reaches; `None` if no path reaches any
unfoldable pub IsRoute : List ℕ → ℕ → List ℕ → Option (List ℕ) → Type 0
IsRoute links from [] route = route ≡ None
IsRoute links from (target ∷ targets) route =
    IsSomeAnd route (IsLeastFailoverPath links from target)
    ⊎ (¬ IsFailoverReachable links from target × IsRoute links from targets route)
