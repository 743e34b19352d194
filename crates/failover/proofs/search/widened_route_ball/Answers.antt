use Rattle.std.proofs.Common.{◌<◌, ◌^◌, ◌∙◌, ap, arith, bit_and, bit_xor, subst, sym, w64, ℕ}
use Rattle.base.proofs.Exports.{bit_not, least_lt, mask_of_lt}
use Rattle.base.specs.Exports.{least_in_number_set}
use Rattle.failover.specs.Exports.{is_known_route_link, advertised_links_of_each}
use Rattle.failover.proofs.RouteRowLoop.{fewer_left, first_left, or_others}
use Rattle.failover.proofs.FailoverKnownLinks.{length-link_rows, row_of, row_turned}
use Rattle.failover.proofs.RouteWiderLoop.{IsWideSoFar, wide_begins, wide_ends, wide_goes_on}
use Rattle.failover.proofs.search.widened_route_ball.Goals as goal

pub loop-rest-init : goal.loop-rest-init
loop-rest-init c = wide_begins _ c.args.ball c.args.edge
    (length-link_rows c.args.neighbours.now c.args.down.now)
    (row_turned c.args.neighbours.now c.args.down.now) (omega arith) (omega arith) c.requires

pub loop-rest-preserved : goal.loop-rest-preserved
unfolding least_in_number_set
loop-rest-preserved c =
    let neighbours = c.args.neighbours.now in
    let down = c.args.down.now in
    let at = least_in_number_set c.loop-rest.rest in
    let fits = least_lt c.loop-rest.rest (omega arith) c.loop-rest.invariant.rest_fits in
    let here = row_of neighbours down at fits in
    let row_fits = subst (λ (m : ℕ). m < 2 ^ 64) (sym here) (mask_of_lt (is_known_route_link neighbours down at)) in
    subst (λ (m : ℕ). IsWideSoFar (advertised_links_of_each neighbours down) c.args.ball m
    (bit_xor c.loop-rest.rest c.only_if-rest.result))
    (sym (or_others c.loop-rest.wide _ c.links_within-wide.result c.loop-rest.invariant.wide_fits
    row_fits (c.links_within-wide.ensures
    ∙ ap (λ row. bit_and row (bit_not w64 c.loop-rest.wide)) (sym here))))
    (wide_goes_on (advertised_links_of_each neighbours down) c.args.ball c.loop-rest.wide c.loop-rest.rest
    at _ (length-link_rows neighbours down) (row_turned neighbours down) c.loop-rest.invariant
    (first_left c.loop-rest.rest c.loop-rest.invariant.rest_fits c.loop-rest-test.true)
    fits row_fits c.only_if-rest.ensures)

pub loop-rest-smaller : goal.loop-rest-smaller
unfolding least_in_number_set
loop-rest-smaller c =
    fewer_left _ _ c.loop-rest.invariant.rest_fits c.loop-rest-test.true c.only_if-rest.ensures

pub returns : goal.returns
returns c = wide_ends _ c.args.ball c.loop-rest.wide c.loop-rest.rest
    (length-link_rows c.args.neighbours.now c.args.down.now) (omega arith)
    c.loop-rest.invariant c.loop-rest-test.false
