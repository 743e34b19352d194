-- A packet goes around a link that is down.
use Rattle.std.proofs.Common.{[], ◌++◌, ◌+◌, ◌∙◌, ◌∷◌, ◌≡◌, Err, IsErr, List, None, Option, Result, Some, ap, length, option_copied, refl, subst, sym, unwrap_or, ℕ}
use Rattle.base.proofs.Exports.{both_written, on_ok_failed, on_ok_weaker}
use Rattle.base.specs.Exports.{IfRefused}
use Rattle.failover.specs.Exports.{no_failover_links, route_of}
use Rattle.switch_core.specs.Exports.{MaySwitchEndLeg, SwitchStandsAtRoutePlace, SwitchValue, switch_stuck_cause}
use Rattle.update_machine.specs.Exports.{Item, Leg}
use Rattle.journal.specs.declared.item.Item.TheVariants as item
use Rattle.travelling.specs.Travelling.{TravellingFlight, TravellingStanding, travelling_flight_begun_at, traveller_found_down_at, traveller_standing_kept, travels_by}
use Rattle.travelling.specs.declared.standing.Standing as packet
use Rattle.tunnel.specs.Exports.{next}
use Rattle.world_log.specs.Exports.{LogHasHopped, LogAfter, LogMeetsDownLink, log_ended_switch, log_followed, log_followed_flight, log_followed_items, log_followed_posts}
use Rattle.world_log.specs.declared.log.Log.{Log}
use Rattle.world_log.proofs.LogDetours.{last_here, stuck_log, stuck_switch, turned_log, turned_switch}
use Rattle.world_log.proofs.LogCalls.{log_failed, log_unwritten}
use Rattle.world_log.proofs.LogHops.{found_part}
use Rattle.world_log.proofs.log.Log.go_around.Goals as goal
use Rattle.world_log.proofs.log.Log.go_around.Goals.{After-push, In_ok-mark_down}

-- memory ran out behind the link
fails : (c : After-push) {T E : Type 0} (r : Result T E) (now : Log) (switch : SwitchValue)
    → IsErr r → now.journal ≡ c.args.self.now.journal ++ item.FoundDown c.args.at.packet
    c.args.at.switch c.args.other ∷ [] → (before : SwitchValue) (t : TravellingFlight)
    → LogMeetsDownLink (traveller_standing_kept c.args.at) c.args.at.version c.args.at.rule c.args.leg
    c.args.targets c.args.other before c.args.switch.now c.args.site.near t → LogHasHopped r
    c.args.at.packet before c.args.site.near c.args.site.ports.now c.args.self.now switch now t
fails c r now switch failed grown before t met = record {
  log = log_failed r _ _ c.args.at.packet _ c.args.self.now now failed
      (found_part before c.args.site.near c.args.site.ports.now t
      (length c.args.self.now.bag + 1) c.args.at.packet c.args.at.switch c.args.other
      c.args.self.now.journal now.journal met.found (ap (λ (a : TravellingStanding). a.packet) met.stands)
      (ap (λ (a : TravellingStanding). a.switch) met.stands) grown);
  counted = on_ok_failed _ r failed;
}

out_of_memory : (c : After-push) {T E : Type 0} {e : E} (now : Log) (switch : SwitchValue)
    → now.journal ≡ c.args.self.now.journal ++ item.FoundDown c.args.at.packet c.args.at.switch
    c.args.other ∷ [] → (before : SwitchValue) (t : TravellingFlight)
    → LogMeetsDownLink (traveller_standing_kept c.args.at) c.args.at.version c.args.at.rule c.args.leg
    c.args.targets c.args.other before c.args.switch.now c.args.site.near t
    → LogHasHopped {T = T} (Err e) c.args.at.packet before c.args.site.near c.args.site.ports.now
    c.args.self.now switch now t
out_of_memory c {T} {E} {e} now switch = fails c {T = T} {E = E} (Err e) now switch refl

pub returns-in_err-push : goal.returns-in_err-push
returns-in_err-push c = λ before t met. record {
  log = log_unwritten c.from_residual.ensures.0 c.in_err-push.ensures.unchanged;
  counted = on_ok_failed _ c.from_residual.result c.from_residual.ensures.0;
}

pub returns-in_err-mark_down : goal.returns-in_err-mark_down
returns-in_err-mark_down c = fails (goal.at.returns-in_err-mark_down c).After-push
    c.from_residual-in_err-mark_down.result (record c.args.self.now { journal = c.push.new.self })
    c.args.switch.now c.from_residual-in_err-mark_down.ensures.0 c.in_ok-push.ensures.pushed

pub returns-in-Err-NoMemory : goal.returns-in-Err-NoMemory
returns-in-Err-NoMemory c = out_of_memory (goal.at.returns-in-Err-NoMemory c).After-push
    (record c.args.self.now { journal = c.push.new.self }) c.shared_route.new.self
    c.in_ok-push.ensures.pushed

-- ---- there is no other route

pub returns-in-Err-Refused : goal.returns-in-Err-Refused
returns-in-Err-Refused c = λ before t met. let at = traveller_standing_kept c.args.at in
    let s = c.args.switch.now in
    let near = c.args.site.near in
    let links : List ℕ = unwrap_or (option_copied c.links.result) no_failover_links in
    let marked = c.in_ok-mark_down.ensures.marked in
    let links_are = c.links.ensures ∙ ap (λ (a : TravellingStanding). a.down) marked in
    let cause = c.in-Err-Refused.cause in
    let both =
    subst (IfRefused (λ cause. (route_of s.database s.number c.args.targets near links ≡ None)
    × (cause ≡ switch_stuck_cause s near links c.args.leg c.args.targets))) c.in-Err-Refused.field-0-is
    c.in-Err-Refused.ensures.refused in
    let mid : Log = record c.args.self.now { journal = c.push.new.self } in
    let log = stuck_log at c.args.at.version c.args.at.rule c.args.leg c.args.targets c.args.other
    before s near t met links links_are cause both.0 both.1 c.stuck.result c.args.site.ports.now
    (length c.args.self.now.bag + 1) c.args.self.now mid c.stuck.new.self
    c.in_ok-push.ensures.pushed refl refl (subst (λ (a : TravellingStanding). LogAfter c.stuck.result
    (item.Stuck a.packet a.switch cause c.args.leg a.down ∷ []) [] a.packet None mid
    c.stuck.new.self) marked (rw c.in-Err-Refused.field-0-is at c.stuck.ensures)) in record {
      log = log;
      counted = on_ok_weaker c.stuck.result (λ _. c.shared_route.ensures.same ∙ met.asked
          ∙ stuck_switch at c.args.at.version c.args.at.rule c.args.leg c.args.targets
          c.args.other before s near t met links links_are cause both.0 both.1) log.written;
    }

-- ---- along another route

-- what is kept of it is the packet at the beginning of that route
kept_is : (c : In_ok-mark_down) (leg : Leg) (targets route : List ℕ) (kept : TravellingFlight)
    → kept ≡ travels_by (travelling_flight_begun_at (traveller_standing_kept c.mark_down.new.self) leg targets route)
    c.mark_down.new.self.version c.mark_down.new.self.rule
    → kept ≡ travels_by (travelling_flight_begun_at (traveller_found_down_at (traveller_standing_kept c.args.at) c.args.other) leg targets route)
    c.args.at.version c.args.at.rule
kept_is c leg targets route kept is =
    is ∙ ap (λ (a : TravellingStanding). travels_by (travelling_flight_begun_at a leg targets route)
    c.mark_down.new.self.version c.mark_down.new.self.rule) c.in_ok-mark_down.ensures.marked
    ∙ ap (λ (a : packet.Standing). travels_by (travelling_flight_begun_at (traveller_found_down_at (traveller_standing_kept c.args.at)
    c.args.other) leg targets route) a.version a.rule) c.mark_down.ensures.rest

pub follow-requires-clause-last : goal.follow-requires-clause-last
follow-requires-clause-last c =
    let at = traveller_standing_kept c.args.at in
    let s = c.args.switch.now in
    let near = c.args.site.near in
    let t = c.requires.met.1.0 in
    let met = c.requires.met.1.1 in
    let links : List ℕ = unwrap_or (option_copied c.links.result) no_failover_links in
    let links_are : links ≡ (traveller_found_down_at at c.args.other).down =
    c.links.ensures ∙ ap (λ (a : TravellingStanding). a.down) c.in_ok-mark_down.ensures.marked in
    let route : List ℕ = c.in-Ok.route in
    let some : ◌≡◌ {A = Option (List ℕ)}
    (route_of s.database s.number c.args.targets near links) (Some route) = c.in-Ok.ensures.route in
    let its = kept_is (goal.at.follow-requires-clause-last c).In_ok-mark_down c.args.leg
    c.args.targets route c.begin-kept.result c.begin-kept.ensures in
    let Q : SwitchValue → TravellingFlight → Type 0 = λ w k. next k.tunnel ≡ None
    → SwitchStandsAtRoutePlace w k.tunnel.route k.tunnel.place × MaySwitchEndLeg w k.tunnel.header k.tunnel.leg in
    subst (λ w. Q w c.begin-kept.result) (sym c.shared_route.ensures.same)
    (subst (Q s) (sym its) (last_here at c.args.at.version c.args.at.rule c.args.leg c.args.targets
    c.args.other c.requires.met.0 s near t met links links_are route some))

pub returns-in_ok-push-in-Ok : goal.returns-in_ok-push-in-Ok
returns-in_ok-push-in-Ok c = λ before t met. let at = traveller_standing_kept c.args.at in
    let s = c.args.switch.now in
    let near = c.args.site.near in
    let ports = c.args.site.ports.now in
    let self = c.args.self.now in
    let n = length self.bag + 1 in
    let links : List ℕ = unwrap_or (option_copied c.links.result) no_failover_links in
    let links_are : links ≡ (traveller_found_down_at at c.args.other).down =
    c.links.ensures ∙ ap (λ (a : TravellingStanding). a.down) c.in_ok-mark_down.ensures.marked in
    let route : List ℕ = c.in-Ok.route in
    let some = c.in-Ok.ensures.route in
    let its = kept_is (goal.at.returns-in_ok-push-in-Ok c).In_ok-mark_down c.args.leg
    c.args.targets route c.begin-kept.result c.begin-kept.ensures in
    let found : Item = item.FoundDown at.packet at.switch c.args.other in
    let mid : Log = record self { journal = c.push-in-Ok.new.self } in
    let grown = both_written self.journal c.push.new.self c.push-in-Ok.new.self
    (found ∷ []) (item.Rerouted at.packet route ∷ []) c.in_ok-push.ensures.pushed
    (c.in_ok-push-in-Ok.ensures.pushed ∙ ap (λ way. c.push.new.self ++ item.Rerouted at.packet way
    ∷ []) c.in_ok-clone-in-Ok.ensures.cases) in
    let P : SwitchValue → TravellingFlight → Type 0 = λ w k. LogAfter c.follow.result
    (log_followed_items n w near ports k) (log_followed_posts w near ports k) k.tunnel.packet
    (log_followed_flight w near ports k) mid c.follow.new.self in
    let log = turned_log at c.args.at.version c.args.at.rule c.args.leg c.args.targets c.args.other
    before s near t met links links_are route some c.follow.result ports n self mid
    c.follow.new.self grown refl refl (subst (P s) its
    (subst (λ w. P w c.begin-kept.result) c.shared_route.ensures.same c.follow.ensures.log)) in
    record {
      log = log;
      counted = on_ok_weaker c.follow.result (λ is. turned_switch at c.args.at.version
          c.args.at.rule c.args.leg c.args.targets c.args.other before s near t met links links_are
          route some c.follow.new.switch (is
          ∙ ap (λ w. log_ended_switch w (log_followed c.begin-kept.result).end) c.shared_route.ensures.same
          ∙ ap (λ (k : TravellingFlight). log_ended_switch s (log_followed k).end) its)) c.follow.ensures.asked;
    }
