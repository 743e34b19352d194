use Rattle.std.proofs.Common.{◌∙◌, arith, sym}
use Rattle.base.proofs.Exports.{at_drop_all, at_drop_more}
use Rattle.failover.specs.Exports.{first_route, advertised_links_of_each}
use Rattle.failover.proofs.RouteSearch.{first_route-found, first_route-missing, first_route-none}
use Rattle.failover.proofs.search.first_route.Goals as goal

pub returns-in-Some : goal.returns-in-Some
returns-in-Some c = sym (sym c.loop-target.invariant
    ∙ at_drop_more (first_route (advertised_links_of_each c.args.neighbours.now c.args.down.now) c.args.from) c.args.targets.now
    c.loop-target.target-index 0 c.loop-target-test.true
    ∙ first_route-found _ _ _ _ _ (sym c.in-Some.ensures))

pub loop-target-preserved : goal.loop-target-preserved
loop-target-preserved c = sym
    (at_drop_more (first_route (advertised_links_of_each c.args.neighbours.now c.args.down.now) c.args.from) c.args.targets.now
    c.loop-target.target-index 0 c.loop-target-test.true
    ∙ first_route-missing _ _ _ _ (sym c.in_default.ensures)) ∙ c.loop-target.invariant

pub returns : goal.returns
returns c = sym (sym (c.loop-target.invariant)
    ∙ at_drop_all (first_route (advertised_links_of_each c.args.neighbours.now c.args.down.now) c.args.from) c.args.targets.now
    c.loop-target.target-index (omega arith) ∙ first_route-none _ _)
