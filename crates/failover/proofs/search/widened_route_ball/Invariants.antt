use Rattle.failover.specs.Exports.{advertised_links_of_each}
use Rattle.failover.proofs.RouteWiderLoop.{IsWideSoFar}
use Rattle.failover.proofs.search.widened_route_ball.Given as goal

abbrev pub invariant-loop-rest : goal.invariant-loop-rest
invariant-loop-rest l = IsWideSoFar (advertised_links_of_each l.neighbours l.down) l.ball l.wide l.rest

abbrev pub decreases-loop-rest : goal.decreases-loop-rest
decreases-loop-rest l = l.rest
