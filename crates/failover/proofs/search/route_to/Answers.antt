use Rattle.std.proofs.Common.{◌∙◌, Some, ap, arith, sym}
use Rattle.failover.specs.Exports.{advertised_links_of_each}
use Rattle.failover.proofs.FailoverKnownLinks.{length-link_rows}
use Rattle.failover.proofs.RouteSearch.{route_to-above, route_to-out}
use Rattle.failover.proofs.RouteWriting.{is_route_list, route_to-along}
use Rattle.failover.proofs.search.route_to.Goals as goal
use Rattle.failover.proofs.search.route_to.Goals.{then-from-ge-MAX_SWITCHES-via-then-from-ge-MAX_SWITCHES, then-from-ge-MAX_SWITCHES-via-else-from-ge-MAX_SWITCHES+then-target-ge-MAX_SWITCHES}

pub returns-then-from-ge-MAX_SWITCHES : goal.returns-then-from-ge-MAX_SWITCHES
returns-then-from-ge-MAX_SWITCHES c = elim c.then-from-ge-MAX_SWITCHES.branch [
  | then-from-ge-MAX_SWITCHES-via-then-from-ge-MAX_SWITCHES w ↦ sym
      (route_to-above (advertised_links_of_each c.args.neighbours.now c.args.down.now) c.args.from c.args.target (λ p q. absurd (omega arith)))
  | then-from-ge-MAX_SWITCHES-via-else-from-ge-MAX_SWITCHES+then-target-ge-MAX_SWITCHES w ↦ sym
      (route_to-above (advertised_links_of_each c.args.neighbours.now c.args.down.now) c.args.from c.args.target (λ p q. absurd (omega arith)))
]

pub returns-in_err-distance : goal.returns-in_err-distance
returns-in_err-distance c = c.from_residual.ensures
    ∙ sym (route_to-out _ _ _ c.if-from-ge-MAX_SWITCHES.false c.if-target-ge-MAX_SWITCHES.false
    c.in_err-distance.ensures.none)

pub walk_failover_route-requires : goal.walk_failover_route-requires
walk_failover_route-requires c = is_route_list _ _ c.args.target _ _ (length-link_rows c.args.neighbours.now c.args.down.now) c.if-target-ge-MAX_SWITCHES.false
    c.if-from-ge-MAX_SWITCHES.false c.in_ok-distance.ensures.away c.in_ok-distance.ensures.balls

pub returns : goal.returns
returns c = ap Some c.walk_failover_route.ensures
    ∙ sym (route_to-along _ _ _ _ _ (length-link_rows c.args.neighbours.now c.args.down.now) c.if-target-ge-MAX_SWITCHES.false
    c.if-from-ge-MAX_SWITCHES.false c.in_ok-distance.ensures.away c.in_ok-distance.ensures.balls)
