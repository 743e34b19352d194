-- A route to one switch is the route to any targets of which it is the first.
use Rattle.std.proofs.Common.{[], ◌<◌, ◌∷◌, ◌≡◌, List, Option, Some, arith, get_or, length, ℕ, rules}
use Rattle.failover.specs.declared.advert.Advert.{Advert}
use Rattle.failover.specs.Exports.{first_route, route_of}

pub to_any : (adverts : List (Option Advert)) (from near : ℕ) (targets down route : List ℕ) (d : ℕ)
    → 0 < length targets → route_of adverts from (get_or targets 0 d ∷ []) near down ≡ Some route
    → route_of adverts from targets near down ≡ Some route
unfolding route_of first_route
to_any adverts from near [] down route d some is = absurd (omega (arith, some))
to_any adverts from near (target ∷ others) down route d some is = search rules
