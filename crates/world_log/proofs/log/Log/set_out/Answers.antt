-- A packet sets out by the route that its switch finds, or is stuck.
use Rattle.std.proofs.Common.{[], ◌∙◌, ◌∷◌, ◌≡◌, List, None, Result, Some, ap, option_copied, refl, subst, unwrap_or, ℕ}
use Rattle.base.specs.Exports.{IfRefused}
use Rattle.failover.specs.Exports.{no_failover_links, route_of}
use Rattle.update_machine.specs.Exports.{Cause, machine_takes_route}
use Rattle.switch_core.specs.Exports.{switch_stuck_cause}
use Rattle.world_log.specs.declared.log.Log.{Log}
use Rattle.travelling.specs.Travelling.{TravellingFlight, travelling_flight_begun_at, traveller_standing_kept, travels_by}
use Rattle.tunnel.specs.Exports.{TunnelValue}
use Rattle.world_log.specs.Exports.{LogAfter, log_packet_standing, log_set_flight, log_set_item}
use Rattle.world_log.proofs.LogForwarding.{none_known, route_known}
use Rattle.world_log.proofs.LogCalls.{log_one}
use Rattle.world_log.proofs.log.Log.set_out.Goals as goal

pub returns-in-Err-Refused-clause-log : goal.returns-in-Err-Refused-clause-log
returns-in-Err-Refused-clause-log c =
    let at = traveller_standing_kept c.args.at in
    let s = c.args.switch.now in
    let links : List ℕ = unwrap_or (option_copied c.links.result) no_failover_links in
    let cause = c.in-Err-Refused.cause in
    let both = subst
    (IfRefused (λ cause. (route_of s.database s.number c.args.targets c.args.near links ≡ None)
    × (cause ≡ switch_stuck_cause s c.args.near links c.args.leg c.args.targets))) c.in-Err-Refused.field-0-is
    c.in-Err-Refused.ensures.refused in
    let Q : Result TunnelValue Cause → Type 0 = λ found.
    LogAfter c.stuck.result (log_set_item at c.args.leg found ∷ []) [] c.args.at.packet
    (log_set_flight c.args.at.version c.args.at.rule found) c.args.self.now c.stuck.new.self in
    subst Q (none_known s c.args.near (log_packet_standing at) c.args.leg c.args.targets links cause
    c.links.ensures both.0 both.1) (rw c.in-Err-Refused.field-0-is at c.stuck.ensures)

pub returns-in_ok-put-in-Ok-clause-log : goal.returns-in_ok-put-in-Ok-clause-log
returns-in_ok-put-in-Ok-clause-log c =
    let at = traveller_standing_kept c.args.at in
    let s = c.args.switch.now in
    let links : List ℕ = unwrap_or (option_copied c.links.result) no_failover_links in
    let route : List ℕ = c.in-Ok.route in
    let kept : TravellingFlight = travels_by (travelling_flight_begun_at at c.args.leg c.args.targets route) c.args.at.version
    c.args.at.rule in
    let now : Log = record c.args.self.now { journal = c.push.new.self; travelling = c.put.new.self } in
    let item_is : c.world_log_takes_route-item.result ≡ machine_takes_route c.args.at.packet c.args.leg route =
    c.world_log_takes_route-item.ensures ∙ ap (machine_takes_route c.args.at.packet c.args.leg) c.in_ok-clone-in-Ok.ensures.cases in
    let Q : Result TunnelValue Cause → Type 0 = λ found.
    LogAfter c.push.result (log_set_item at c.args.leg found ∷ []) [] c.args.at.packet
    (log_set_flight c.args.at.version c.args.at.rule found) c.args.self.now now in
    subst Q (route_known s c.args.near (log_packet_standing at) c.args.leg c.args.targets links route
    c.links.ensures c.in-Ok.ensures.route)
    (rw item_is at (log_one c.push.result c.world_log_takes_route-item.result c.args.at.packet (Some kept)
    c.args.self.now now c.push.ensures.pushed c.push.ensures.unchanged refl
    (rw c.begin-kept.ensures at c.in_ok-put-in-Ok.ensures)))
