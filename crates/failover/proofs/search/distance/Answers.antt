use Rattle.std.proofs.Common.{◌<◌, ◌∙◌, ◌≡◌, List, ap, arith, bit_and, get_or, length-set, subst, sym, ℕ}
use Rattle.failover.specs.Exports.{route_links_at, advertised_links_of_each}
use Rattle.failover.proofs.FailoverKnownLinks.{length-link_rows, row_of, row_turned}
use Rattle.failover.proofs.RouteSearch.{none_after}
use Rattle.failover.proofs.RouteWriting.{first_ball, next_ball, no_balls, more_balls, no_more, before_more, next_away}
use Rattle.failover.proofs.RouteWiderLoop.{edge_first, edge_next}
use Rattle.failover.proofs.search.distance.Goals as goal

pub loop-k-init : goal.loop-k-init
loop-k-init c = record {
  here = c.only_if-ball.ensures ∙ first_ball (advertised_links_of_each c.args.neighbours.now c.args.down.now) c.args.target;
  places = c.told-balls;
  edge = edge_first _ _;
  balls = no_balls _ _ _;
  before = λ j less. absurd (omega arith);
}

pub returns-then-wide-ball-clause-none : goal.returns-then-wide-ball-clause-none
returns-then-wide-ball-clause-none c =
    no_more (advertised_links_of_each c.args.neighbours.now c.args.down.now) c.args.target c.loop-k.k c.loop-k.ball _ c.args.from
    c.loop-k.invariant.here c.widened_route_ball-wide.ensures c.if-wide-ball.true
    (sym c.has.ensures.has ∙ c.if-has.false) c.loop-k.invariant.before

-- the switch has a link into the ball
meets : (neighbours down : List ℕ) (from ball found : ℕ) → from < 64 →
    found ≡ bit_and (route_links_at neighbours down from) ball → 0 < found →
    0 < bit_and (get_or (advertised_links_of_each neighbours down) from 0) ball
meets neighbours down from ball found fits e some = subst (λ (m : ℕ). 0 < m)
    (e ∙ ap (λ row. bit_and row ball) (sym (row_of neighbours down from fits))) some

pub returns-then-links_within-ne0-clause-away : goal.returns-then-links_within-ne0-clause-away
returns-then-links_within-ne0-clause-away c =
    let rows = length-link_rows c.args.neighbours.now c.args.down.now in
    next_away (advertised_links_of_each c.args.neighbours.now c.args.down.now) c.args.target c.loop-k.k
    c.loop-k.ball c.args.from (omega (arith, c.requires.from)) c.loop-k.invariant.here
    (meets c.args.neighbours.now c.args.down.now c.args.from c.loop-k.ball _ c.requires.from
    c.links_within.ensures (omega arith))
    (sym c.has.ensures.has ∙ c.if-has.false) c.loop-k.invariant.before

pub returns-then-links_within-ne0-clause-balls : goal.returns-then-links_within-ne0-clause-balls
returns-then-links_within-ne0-clause-balls c = more_balls _ c.args.target c.loop-k.balls c.loop-k.k
    c.loop-k.ball (omega (arith, c.loop-k.invariant.places)) c.loop-k.invariant.here
    c.loop-k.invariant.balls

pub loop-k-preserved : goal.loop-k-preserved
loop-k-preserved c = record {
  here = next_ball (advertised_links_of_each c.args.neighbours.now c.args.down.now) c.args.target c.loop-k.k c.loop-k.ball _ c.loop-k.invariant.here
      c.widened_route_ball-wide.ensures;
  places = length-set c.loop-k.balls c.loop-k.k c.loop-k.ball ∙ c.loop-k.invariant.places;
  edge = edge_next _ c.loop-k.ball _ (length-link_rows c.args.neighbours.now c.args.down.now)
      (row_turned c.args.neighbours.now c.args.down.now) c.widened_route_ball-wide.ensures;
  balls = more_balls (advertised_links_of_each c.args.neighbours.now c.args.down.now) c.args.target c.loop-k.balls c.loop-k.k c.loop-k.ball
      (omega (arith, c.loop-k.invariant.places)) c.loop-k.invariant.here c.loop-k.invariant.balls;
  before = before_more (advertised_links_of_each c.args.neighbours.now c.args.down.now) c.args.target c.loop-k.k c.loop-k.ball c.args.from
      c.loop-k.invariant.here (sym c.has.ensures.has ∙ c.if-has.false) c.loop-k.invariant.before;
}

pub returns-clause-none : goal.returns-clause-none
returns-clause-none c = none_after (advertised_links_of_each c.args.neighbours.now c.args.down.now) c.args.target c.loop-k.k c.args.from
    c.loop-k-test.false c.loop-k.invariant.before
