use Rattle.std.proofs.Common.{◌++◌, ◌+◌, ◌-◌, ◌∙◌, ◌∷◌, ◌≡◌, List, ap, arith, bit_and, get_or, length, replicate, sym, take, ℕ}
use Rattle.failover.specs.Exports.{least_route_neighbour_in, advertised_links_of_each, route_path_by_balls}
use Rattle.base.specs.Exports.{least_in_number_set}
use Rattle.failover.proofs.FailoverKnownLinks.{row_of}
use Rattle.failover.proofs.RouteWriting.{length-along, left_at, below_in, along-next, written_more, written_route}
use Rattle.failover.proofs.search.walk_failover_route.Goals as goal

pub links_within-at-requires : goal.links_within-at-requires
links_within-at-requires c = below_in _ c.loop-step.step _ _ c.requires c.loop-step.invariant.left

pub offset_bounds-balls-distance : goal.offset_bounds-balls-distance
offset_bounds-balls-distance c = omega (
  arith,
  length-along (advertised_links_of_each c.args.neighbours.now c.args.down.now) c.args.balls.now c.args.distance c.args.from,
  c.requires.few,
)

pub bounds-balls-distance : goal.bounds-balls-distance
bounds-balls-distance c = omega (arith, length-along, c.requires.few)

pub bounds-switches-step : goal.bounds-switches-step
bounds-switches-step c = omega (arith, length-along, c.requires.few)

pub loop-step-preserved : goal.loop-step-preserved
unfolding least_route_neighbour_in least_in_number_set
loop-step-preserved c =
    let links = advertised_links_of_each c.args.neighbours.now c.args.down.now in
    let route = c.args.from ∷ route_path_by_balls links c.args.balls.now c.args.distance c.args.from in
    let long = length-along links c.args.balls.now c.args.distance c.args.from in
    let fits = below_in _ c.loop-step.step _ _ c.requires c.loop-step.invariant.left in
    let here = left_at route c.loop-step.step _ _ c.loop-step.invariant.left in
    let ball = get_or c.args.balls.now (c.args.distance - 1 - c.loop-step.step) 0 in
    let nearest = ap least_in_number_set (c.links_within-at.ensures ∙ ap (λ row. bit_and row ball)
    (sym (row_of c.args.neighbours.now c.args.down.now c.loop-step.at fits))) in
    let next = here.2 ∙ along-next links c.args.balls.now (c.args.distance - c.loop-step.step)
    c.loop-step.at (c.args.distance - 1 - c.loop-step.step) (omega arith) in
    let there = left_at route (c.loop-step.step + 1) _ _ next in record {
      written = written_more route c.loop-step.switches c.loop-step.step _ c.requires.few there.0
          (nearest ∙ sym there.1) c.loop-step.invariant.written;
      left = next ∙ ap (λ (m : ℕ). least_route_neighbour_in links ball c.loop-step.at
          ∷ route_path_by_balls links c.args.balls.now m (least_route_neighbour_in links ball c.loop-step.at))
          (omega arith) ∙ ap (λ (x : ℕ). x ∷ route_path_by_balls links c.args.balls.now
          (c.args.distance - (c.loop-step.step + 1)) x) (sym nearest);
    }

whole_of : (route switches : List ℕ) (distance step : ℕ) → length route ≡ distance + 1 →
    step ≡ distance → switches ≡ take (step + 1) route ++ replicate (63 - step) 0 →
    take (distance + 1) switches ≡ route
whole_of route switches distance step long last written = written_route route switches distance long
    (written ∙ ap (λ (n : ℕ). take (n + 1) route ++ replicate (63 - n) 0) last)

pub new-requires-clause-list : goal.new-requires-clause-list
new-requires-clause-list c =
    let long = length-along (advertised_links_of_each c.args.neighbours.now c.args.down.now) c.args.balls.now c.args.distance c.args.from in
    rw (whole_of (c.args.from ∷ route_path_by_balls (advertised_links_of_each c.args.neighbours.now c.args.down.now)
    c.args.balls.now c.args.distance c.args.from) c.loop-step.switches c.args.distance
    c.loop-step.step (omega arith) (omega arith) c.loop-step.invariant.written) c.requires

pub returns : goal.returns
returns c =
    let long = length-along (advertised_links_of_each c.args.neighbours.now c.args.down.now) c.args.balls.now c.args.distance c.args.from in
    c.new.ensures ∙ whole_of (c.args.from ∷ route_path_by_balls
    (advertised_links_of_each c.args.neighbours.now c.args.down.now) c.args.balls.now c.args.distance
    c.args.from) c.loop-step.switches c.args.distance c.loop-step.step (omega arith)
    (omega arith) c.loop-step.invariant.written
