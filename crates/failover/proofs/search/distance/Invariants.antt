use Rattle.std.proofs.Common.{◌<◌, ◌≡◌, false, length, ℕ}
use Rattle.base.specs.Exports.{has}
use Rattle.failover.specs.Exports.{AreRouteBalls, IsRouteBallEdge, route_ball, advertised_links_of_each}
use Rattle.failover.proofs.search.distance.Given as goal

abbrev pub invariant-loop-k : goal.invariant-loop-k
invariant-loop-k l = let links = advertised_links_of_each l.neighbours l.down in record {
  here : l.ball ≡ route_ball links l.target l.k;
  places : length l.balls ≡ 64;
  edge : IsRouteBallEdge links l.ball l.edge;
  balls : AreRouteBalls links l.target l.balls l.k;
  before : (j : ℕ) → j < l.k → has (route_ball links l.target j) l.from ≡ false;
}
