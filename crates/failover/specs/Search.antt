-- What a breadth-first search has found, before its route is written down.
use Rattle.std.specs.Prelude.{[], ◌<◌, ◌∷◌, ◌≡◌, List, false, slice_index, suc, true, zero, ℕ}
use Rattle.base.specs.Exports.{has}
use Rattle.failover.specs.Routes.{route_ball, least_route_neighbour_in}

-- the switch is k links away from the target, and no fewer
pub record IsRouteLinksAway (links : List ℕ) (target k at : ℕ) : Type 0 where
  pub here : has (route_ball links target k) at ≡ true
  pub later : (j : ℕ) → j < k → has (route_ball links target j) at ≡ false

-- no path of 63 links or fewer leads from the switch to the target
unfoldable pub IsOutOfFailoverReach : List ℕ → ℕ → ℕ → Type 0
IsOutOfFailoverReach links target at = (k : ℕ) → k < 64 → has (route_ball links target k) at ≡ false

-- at each place below k is the set of the switches that are at most that many links away
unfoldable pub AreRouteBalls : List ℕ → ℕ → List ℕ → ℕ → Type 0
AreRouteBalls links target balls k = (j : ℕ) → j < k → slice_index balls j ≡ route_ball links target j

-- the switches after one that is k links away, if these are the balls
unfoldable pub route_path_by_balls : List ℕ → List ℕ → ℕ → ℕ → List ℕ
route_path_by_balls links balls zero at = []
route_path_by_balls links balls (suc k) at = let next =
    least_route_neighbour_in links (slice_index balls k) at in next ∷ route_path_by_balls links balls k next

-- a part of the ball, and the links of all others in it stay within the ball
pub record IsRouteBallEdge (links : List ℕ) (ball edge : ℕ) : Type 0 where
  pub inside : (one : ℕ) → one < 64 → has edge one ≡ true → has ball one ≡ true
  pub inner : (one other : ℕ) → one < 64 → other < 64 → has ball one ≡ true →
      has edge one ≡ false → has (slice_index links one) other ≡ true → has ball other ≡ true
