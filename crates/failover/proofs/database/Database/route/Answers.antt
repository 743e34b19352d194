use Rattle.std.proofs.Common.{◌∙◌, ap}
use Rattle.failover.specs.Exports.{first_route, failover_known_links, advertised_links_of_each, route_of}
use Rattle.failover.proofs.FailoverKnownLinks.{named_links_held}
use Rattle.failover.proofs.RouteSearch.{known_route_is_route, route_is_list}
use Rattle.failover.proofs.database.Database.route.Goals as goal

pub returns-clause-value : goal.returns-clause-value
unfolding route_of failover_known_links advertised_links_of_each
returns-clause-value c = c.first_route.ensures ∙ ap (λ targets. first_route
    (advertised_links_of_each c.set_own_link_state.new.neighbours c.args.down.now) c.args.from targets)
    c.items.ensures.list ∙ ap (λ neighbours. first_route (advertised_links_of_each neighbours c.args.down.now)
    c.args.from c.args.targets.now) (rw (← c.self.view_is) (named_links_held c.self.inside.adverts
    c.self.inside.named c.args.from c.args.near _ c.self.invariant c.set_own_link_state.ensures))

pub returns-clause-route : goal.returns-clause-route
returns-clause-route c = rw (returns-clause-value c) (known_route_is_route c.args.self.now
    c.args.from c.args.targets.now c.args.near c.args.down.now)

pub returns-clause-list : goal.returns-clause-list
returns-clause-list c = route_is_list _ _ _ _ (returns-clause-route c)
