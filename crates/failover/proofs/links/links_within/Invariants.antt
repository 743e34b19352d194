use Rattle.failover.proofs.RouteRowLoop.{IsRowSoFar}
use Rattle.failover.proofs.links.links_within.Given as goal

abbrev pub invariant-loop-rest : goal.invariant-loop-rest
invariant-loop-rest l = IsRowSoFar l.neighbours l.down l.one l.within l.mask l.rest

abbrev pub decreases-loop-rest : goal.decreases-loop-rest
decreases-loop-rest l = l.rest
