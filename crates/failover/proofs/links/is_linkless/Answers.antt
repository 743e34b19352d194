use Rattle.std.proofs.Common.{◌==◌, ◌∙◌, ap}
use Rattle.failover.specs.Exports.{is_known_route_link, route_links_at}
use Rattle.base.proofs.Exports.{mask_of_lt}
use Rattle.failover.proofs.FailoverKnownLinks.{no_row_past}
use Rattle.failover.proofs.RouteRowLoop.{and_all}
use Rattle.failover.proofs.links.is_linkless.Goals as goal

pub returns-then-one-ge-MAX_SWITCHES : goal.returns-then-one-ge-MAX_SWITCHES
returns-then-one-ge-MAX_SWITCHES c = no_row_past _ _ _ c.told-neighbours c.if-one-ge-MAX_SWITCHES.true

pub returns-else-one-ge-MAX_SWITCHES : goal.returns-else-one-ge-MAX_SWITCHES
returns-else-one-ge-MAX_SWITCHES c = ap (λ row. row == 0) (c.links_within.ensures
    ∙ and_all (route_links_at c.args.neighbours.now c.args.down.now c.args.one)
    (mask_of_lt (is_known_route_link c.args.neighbours.now c.args.down.now c.args.one)))
