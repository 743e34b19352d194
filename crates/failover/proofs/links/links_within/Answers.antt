use Rattle.std.proofs.Common.{◌∙◌, ap, arith}
use Rattle.base.specs.Exports.{least_in_number_set, only_if}
use Rattle.base.proofs.Exports.{least_lt}
use Rattle.failover.proofs.RouteRowLoop.{row_begins, row_ends, row_goes_on, fewer_left, first_left}
use Rattle.failover.proofs.links.links_within.Goals as goal

pub loop-rest-init : goal.loop-rest-init
loop-rest-init c = row_begins c.args.neighbours.now c.args.down.now c.args.one c.args.within
    (omega arith)

pub is_link_to-requires-clause-named : goal.is_link_to-requires-clause-named
unfolding least_in_number_set
is_link_to-requires-clause-named c = c.loop-rest.invariant.named (least_in_number_set c.loop-rest.rest)
    (first_left c.loop-rest.rest c.loop-rest.invariant.rest_fits c.loop-rest-test.true)

pub loop-rest-preserved : goal.loop-rest-preserved
unfolding least_in_number_set
loop-rest-preserved c = row_goes_on c.args.neighbours.now c.args.down.now c.args.one c.args.within
    c.loop-rest.mask c.loop-rest.rest (least_in_number_set c.loop-rest.rest) _ _ c.loop-rest.invariant
    (first_left c.loop-rest.rest c.loop-rest.invariant.rest_fits c.loop-rest-test.true)
    (least_lt c.loop-rest.rest (omega arith) c.loop-rest.invariant.rest_fits)
    (c.only_if-mask.ensures ∙ ap (λ b. only_if b (least_in_number_set c.loop-rest.rest)) c.is_link_to.ensures)
    c.only_if-rest.ensures

pub loop-rest-smaller : goal.loop-rest-smaller
unfolding least_in_number_set
loop-rest-smaller c =
    fewer_left _ _ c.loop-rest.invariant.rest_fits c.loop-rest-test.true c.only_if-rest.ensures

pub returns : goal.returns
returns c = row_ends c.args.neighbours.now c.args.down.now c.args.one c.args.within
    c.loop-rest.mask c.loop-rest.rest (omega arith) c.loop-rest.invariant c.loop-rest-test.false
