use Rattle.std.proofs.Common.{◌++◌, ◌+◌, ◌-◌, ◌∷◌, ◌≡◌, drop, replicate, take}
use Rattle.failover.specs.Exports.{advertised_links_of_each, route_path_by_balls}
use Rattle.failover.proofs.search.walk_failover_route.Given as goal

abbrev pub invariant-loop-step : goal.invariant-loop-step
invariant-loop-step l = let links = advertised_links_of_each l.neighbours l.down in
    let route = l.from ∷ route_path_by_balls links l.balls l.distance l.from in record {
      written : l.switches ≡ take (l.step + 1) route ++ replicate (63 - l.step) 0;
      left : drop l.step route ≡ l.at ∷ route_path_by_balls links l.balls (l.distance - l.step) l.at;
    }
