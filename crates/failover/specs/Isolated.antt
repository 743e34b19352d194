-- What is in a database of adverts, which switches adverts name, and where no known link ends.
use Rattle.std.specs.Prelude.{◌&&◌, ◌==◌, ◌≡◌, Bool, List, Option, map, not, ℕ}
use Rattle.failover.specs.declared.advert.Advert.{Advert}
use Rattle.failover.specs.Adverts.{held_advert}
use Rattle.failover.specs.Links.{neighbours_named_by_advert, neighbours_by_adverts, route_links_at}
use Rattle.failover.specs.Newest.{AreAdvertsByOrigin}
use Rattle.base.specs.Exports.{has, switches}

-- the origin's advert, if there is one, names this neighbour
unfoldable pub advert_names_neighbour : List (Option Advert) → ℕ → ℕ → Bool
advert_names_neighbour adverts origin other = has (neighbours_named_by_advert (held_advert adverts origin)) other

-- the target is not the switch `at`, and no link that `at` knows ends at it
unfoldable pub is_failover_target_isolated : List (Option Advert) → ℕ → ℕ → ℕ → List ℕ → Bool
is_failover_target_isolated adverts at target near down =
    not (target == at) && (route_links_at (neighbours_by_adverts adverts at near) down target == 0)

-- what is in a database: each advert at the place of its origin, and the neighbours that it names
pub record IsAdvertDatabase (adverts : List (Option Advert)) (named : List ℕ) : Type 0 where
  pub by_origin : AreAdvertsByOrigin adverts
  pub neighbours : named ≡ map neighbours_named_by_advert adverts

-- for each switch the switches to which it has a link
unfoldable pub advertised_links_of_each : List ℕ → List ℕ → List ℕ
advertised_links_of_each neighbours down = map (route_links_at neighbours down) switches
