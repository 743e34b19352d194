use Rattle.std.proofs.Common.{◌∙◌, sym}
use Rattle.failover.specs.Exports.{no_failover_links}
use Rattle.switch_core.proofs.SwitchFirstTargets.{to_any}
use Rattle.switch_core.proofs.routes.SwitchRoutes.find_route.Goals as goal

pub returns-clause-route : goal.returns-clause-route
returns-clause-route c =
    let s = c.args.self.now in
    let route = c.in-Some.route in
    sym (rw c.items.ensures.list at (to_any s c.args.from c.args.near c.items.result.now no_failover_links
    route _ (rw c.items.ensures.list c.items.ensures.some)
    (rw (rw c.unwrap-alone.ensures at c.new.ensures.list) at
    (rw c.empty-down.ensures.value at (sym c.in_ok-route.ensures ∙ c.in-Some.is)))))
