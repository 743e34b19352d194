use Rattle.std.proofs.Common.{◌≡◌, drop}
use Rattle.failover.specs.Exports.{first_route, advertised_links_of_each}
use Rattle.failover.proofs.search.first_route.Given as goal

abbrev pub invariant-loop-target : goal.invariant-loop-target
invariant-loop-target l = first_route (advertised_links_of_each l.neighbours l.down) l.from (drop l.target-index l.targets) ≡
    first_route (advertised_links_of_each l.neighbours l.down) l.from l.targets
