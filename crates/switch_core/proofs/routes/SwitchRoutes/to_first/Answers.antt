use Rattle.std.proofs.Common.{◌∙◌, Some, ap, option_copied, sym, unwrap_or}
use Rattle.failover.specs.Exports.{no_failover_links, route_of}
use Rattle.switch_core.proofs.SwitchFirstTargets.{to_any}
use Rattle.switch_core.proofs.routes.SwitchRoutes.to_first.Goals as goal

pub returns-in-Some-kept_route-clause-route : goal.returns-in-Some-kept_route-clause-route
returns-in-Some-kept_route-clause-route c = let route = c.in-Some-kept_route.route.now in
    ap Some c.in_ok-clone.ensures.cases
    ∙ sym (rw c.items.ensures.list at
    (to_any c.args.self.now c.args.from c.args.near c.items.result.now no_failover_links route _
    (rw c.items.ensures.list c.items.ensures.some) c.in-Some-kept_route.ensures))
    ∙ ap (λ links. route_of c.args.self.now c.args.from c.args.targets.now c.args.near
    (unwrap_or links no_failover_links)) (ap option_copied (sym c.in_default.is))
