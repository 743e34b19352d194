-- A packet moves to the second switch of its route, or has arrived.
use Rattle.std.proofs.Common.{[], ◌+◌, ◌∙◌, ◌≡◌, None, Option, Result, Some, ap, length, refl, slice_get, subst, sym, ℕ}
use Rattle.base.proofs.Exports.{on_ok_weaker, slice_get_within}
use Rattle.journal.specs.declared.item.Item.TheVariants as item
use Rattle.update_machine.specs.Exports.{Ports}
use Rattle.switch_core.specs.Exports.{MaySwitchEndLeg, SwitchStandsAtRoutePlace, SwitchValue, switch_site_around, switch_move_answer}
use Rattle.travelling.specs.Travelling.{TravellingFlight, TravellingStanding, travelling_flight_placed_at, traveller_standing_at, traveller_standing_kept}
use Rattle.tunnel.specs.Exports.{next}
use Rattle.world_log.specs.Exports.{LogAfter, log_ended_flight, log_ended_items, log_ended_posts, log_ended_switch, log_followed, log_followed_flight, log_followed_items, log_followed_posts}
use Rattle.world_log.specs.declared.log.Log.{Log}
use Rattle.world_log.proofs.LogCalls.{log_one, log_unwritten}
use Rattle.world_log.proofs.LogHops.{arrival_log, placed}
use Rattle.world_log.proofs.log.Log.follow.Goals as goal

-- by the next switch of its route
module _ {T E : Type 0} (r : Result T E) (number : ℕ) (s : SwitchValue) (near : ℕ) (ports : Ports)
    (t : TravellingFlight) (packet : ℕ) (old new : Log) where
  by_next : (onward : Option ℕ) → next t.tunnel ≡ onward → (let m = switch_move_answer t.tunnel onward in
      LogAfter r (log_ended_items number s near ports (record t { tunnel = m.tunnel }) m.end)
      (log_ended_posts s near ports (record t { tunnel = m.tunnel }) m.end) packet
      (log_ended_flight s near ports (record t { tunnel = m.tunnel }) m.end) old new)
      → LogAfter r (log_followed_items number s near ports t) (log_followed_posts s near ports t) packet
      (log_followed_flight s near ports t) old new
  by_next onward is log = subst (λ o. let m = switch_move_answer t.tunnel o in
      LogAfter r (log_ended_items number s near ports (record t { tunnel = m.tunnel }) m.end)
      (log_ended_posts s near ports (record t { tunnel = m.tunnel }) m.end) packet
      (log_ended_flight s near ports (record t { tunnel = m.tunnel }) m.end) old new) (sym is) log

-- the switch was asked so often
asked : (s : SwitchValue) (t : TravellingFlight) (onward : Option ℕ) → next t.tunnel ≡ onward
    → log_ended_switch s (switch_move_answer t.tunnel onward).end ≡ log_ended_switch s (log_followed t).end
asked s t onward is = ap (λ o. log_ended_switch s (switch_move_answer t.tunnel o).end) (sym is)

-- ---- it moves on

pub move_to-requires : goal.move_to-requires
move_to-requires c = rw (ap (λ place. place + 1) (sym c.place-place.ensures.place)) at
    (slice_get_within c.args.kept.tunnel.route (c.args.kept.tunnel.place + 1) c.in-Some.next
    (sym c.next.ensures ∙ c.in-Some.is))

pub returns-in_err-put-in-Some-clause-log : goal.returns-in_err-put-in-Some-clause-log
returns-in_err-put-in-Some-clause-log c = log_unwritten c.from_residual.ensures.0 refl

pub returns-in_ok-put-in-Some-clause-log : goal.returns-in_ok-put-in-Some-clause-log
returns-in_ok-put-in-Some-clause-log c =
    let t = c.args.kept in
    let self = c.args.self.now in
    let now : Log = record self { journal = c.push.new.self; travelling = c.put.new.self } in
    let moved : c.move_to.new.self ≡ travelling_flight_placed_at (t.tunnel.place + 1) t =
    c.move_to.ensures ∙ ap (λ place. travelling_flight_placed_at (place + 1) t) c.place-place.ensures.place in
    by_next c.push.result (length self.bag + 1) c.args.switch.now c.args.site.near
    c.args.site.ports.now t t.tunnel.packet self now (Some c.in-Some.next)
    (sym c.next.ensures ∙ c.in-Some.is)
    (rw c.packet-packet.ensures at (log_one c.push.result (item.Hopped c.packet-packet.result
    c.in-Some.next) c.packet-packet.result (Some (travelling_flight_placed_at (t.tunnel.place + 1) t)) self now
    c.push.ensures.pushed c.push.ensures.unchanged refl (rw moved at c.in_ok-put-in-Some.ensures)))

pub returns-in_ok-put-in-Some-clause-asked : goal.returns-in_ok-put-in-Some-clause-asked
returns-in_ok-put-in-Some-clause-asked c = on_ok_weaker c.push.result (λ _. asked c.args.switch.now
    c.args.kept (Some c.in-Some.next) (sym c.next.ensures ∙ c.in-Some.is)) c.push.ensures.pushed

-- ---- or it has arrived

pub receive-forwarding-requires-clause-here : goal.receive-forwarding-requires-clause-here
receive-forwarding-requires-clause-here c = let t = c.args.kept.tunnel in
    placed (SwitchStandsAtRoutePlace c.args.switch.now) c.route.result.now c.place-place.result t
    c.route.ensures c.place-place.ensures.place
    (c.requires.last (sym c.next.ensures ∙ c.in-None.is)).0

pub receive-forwarding-requires-clause-last : goal.receive-forwarding-requires-clause-last
receive-forwarding-requires-clause-last c = let t = c.args.kept.tunnel in
    placed (λ route place. ◌≡◌ {A = Option ℕ} (slice_get route (place + 1)) None)
    c.route.result.now c.place-place.result t c.route.ensures c.place-place.ensures.place
    (sym c.next.ensures ∙ c.in-None.is)

pub receive-forwarding-requires-clause-authority : goal.receive-forwarding-requires-clause-authority
receive-forwarding-requires-clause-authority c =
    let s = c.args.switch.now in
    let at = c.in_ok-at-in-None.at in
    subst (λ h. MaySwitchEndLeg s h c.leg-leg.result)
    (sym (ap (λ (a : TravellingStanding). a.header) c.in_ok-at-in-None.ensures.at))
    (subst (MaySwitchEndLeg s c.args.kept.tunnel.header) (sym c.leg-leg.ensures)
    (c.requires.last (sym c.next.ensures ∙ c.in-None.is)).1)

pub returns-in_err-at-in-None-clause-log : goal.returns-in_err-at-in-None-clause-log
returns-in_err-at-in-None-clause-log c =
    log_unwritten c.from_residual-in_err-at-in-None.ensures.0 refl

pub returns-in_ok-at-in-None-clause-log : goal.returns-in_ok-at-in-None-clause-log
returns-in_ok-at-in-None-clause-log c =
    let t = c.args.kept in
    let s = c.args.switch.now in
    let near = c.args.site.near in
    let ports = c.args.site.ports.now in
    let self = c.args.self.now in
    let n = length self.bag + 1 in
    let at = c.in_ok-at-in-None.at in
    let says = c.in_ok-at-in-None.ensures in
    let stands = says.at ∙ ap (λ n. traveller_standing_at n t) c.number.ensures.number in
    by_next c.settle.result n s near ports t t.tunnel.packet self c.settle.new.self None
    (sym c.next.ensures ∙ c.in-None.is)
    (arrival_log c.settle.result n s near ports t (traveller_standing_kept at) at.version at.rule
    c.leg-leg.result t.tunnel.packet _ self c.settle.new.self stands says.version says.rule
    c.leg-leg.ensures (ap (λ (a : TravellingStanding). a.packet) stands)
    (c.receive-forwarding.ensures.answer (switch_site_around near ports) at.packet (traveller_standing_kept at).down)
    c.settle.ensures.log)

pub returns-in_ok-at-in-None-clause-asked : goal.returns-in_ok-at-in-None-clause-asked
returns-in_ok-at-in-None-clause-asked c = on_ok_weaker c.settle.result
    (λ _. c.settle.ensures.same ∙ c.receive-forwarding.ensures.after ∙ asked c.args.switch.now
    c.args.kept None (sym c.next.ensures ∙ c.in-None.is)) c.settle.ensures.log.written
