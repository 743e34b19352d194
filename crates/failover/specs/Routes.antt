-- The route as a function that computes: breadth first from the target (Moore, "The Shortest Path
-- Through a Maze", 1959), then each time to the least switch that is one link nearer.
use Rattle.std.specs.Prelude.{[], ◌&&◌, ◌==◌, ◌^◌, ◌∷◌, List, None, Option, Some, bit_and, bit_or, false, nat_lt, not, option_map, slice_index, suc, true, zero, ℕ}
use Rattle.failover.specs.declared.advert.Advert.{Advert}
use Rattle.base.specs.Exports.{has, least_in_number_set, number_set_where}
use Rattle.failover.specs.Links.{failover_known_links}

-- a set of switches, and those that have a link into it
unfoldable pub grown_route_ball : List ℕ → ℕ → ℕ
grown_route_ball links ball = bit_or ball (number_set_where (λ mask. not (bit_and mask ball == 0)) 0 links)

-- the switches that are at most k links away from the target
unfoldable pub route_ball : List ℕ → ℕ → ℕ → ℕ
route_ball links target zero = 2 ^ target
route_ball links target (suc k) = grown_route_ball links (route_ball links target k)

-- the least switch of a set to which this one has a link
unfoldable pub least_route_neighbour_in : List ℕ → ℕ → ℕ → ℕ
least_route_neighbour_in links within at = least_in_number_set (bit_and (slice_index links at) within)

-- the switches after one that is k links away from the target
unfoldable pub route_path_after : List ℕ → ℕ → ℕ → ℕ → List ℕ
route_path_after links target zero at = []
route_path_after links target (suc k) at = let next =
    least_route_neighbour_in links (route_ball links target k) at in next ∷ route_path_after links target k next

-- by how many links this ball must grow to have the switch; `None` if it stops growing before
unfoldable pub route_ball_links_away : ℕ → List ℕ → ℕ → ℕ → Option ℕ
route_ball_links_away zero links from within = None
route_ball_links_away (suc most) links from within = elim (has within from) [
  | true ↦ Some 0
  | false ↦ let wide = grown_route_ball links within in elim
      (wide == within) [ true ↦ None | false ↦ option_map suc (route_ball_links_away most links from wide) ]
]

unfoldable pub route_to : List ℕ → ℕ → ℕ → Option (List ℕ)
route_to links from target = elim (nat_lt from 64 && nat_lt target 64) [
  | true ↦ option_map (λ k. from ∷ route_path_after links target k from)
      (route_ball_links_away 64 links from (2 ^ target))
  | false ↦ None
]

unfoldable pub first_route : List ℕ → ℕ → List ℕ → Option (List ℕ)
first_route links from [] = None
first_route links from (target ∷ targets) =
    elim (route_to links from target)
    [ Some route ↦ Some route | None ↦ first_route links from targets ]

-- the route from a switch to the first target that it reaches by the links that it knows
unfoldable pub route_of : List (Option Advert) → ℕ → List ℕ → ℕ → List ℕ → Option (List ℕ)
route_of adverts from targets near down =
    first_route (failover_known_links adverts from near down) from targets
