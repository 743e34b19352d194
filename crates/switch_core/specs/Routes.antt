-- The routes that a switch keeps: each is the route by its adverts.
use Rattle.std.specs.Prelude.{[], ◌∷◌, ◌≡◌, List, Option, Some}
use Rattle.failover.specs.declared.advert.Advert.{Advert}
use Rattle.failover.specs.Exports.{no_failover_links, route_of}
use Rattle.switch_core.specs.declared.routes.KeptRoute.{KeptRoute}

-- the kept route is the route by these adverts, with no link found down
abbrev pub IsSwitchRouteBy : List (Option Advert) → KeptRoute → Type 0
IsSwitchRouteBy adverts way = route_of adverts way.from (way.target ∷ []) way.near no_failover_links ≡ Some way.route
