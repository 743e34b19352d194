-- What was written of a packet that was decided is the way that its decision says.
use Rattle.std.proofs.Common.{[], ◌∙◌, ◌∷◌, List, Result, eq-eqb, false, ne_eqb, subst, sym, true, ℕ}
use Rattle.update_machine.specs.Exports.{Cause, Drop, Exit as ExitLeg, Out as OutBy}
use Rattle.switch_core.specs.Exports.{switch_next_of, switch_set_out, switch_site_of}
use Rattle.switch_core.specs.declared.deciding.Decision.{Decision}
use Rattle.travelling.specs.Travelling.{traveller_standing_kept}
use Rattle.tunnel.specs.Exports.{TunnelValue}
use Rattle.world_log.specs.Exports.{LogAfter, log_packet_standing, log_set_flight, log_set_item}
use Rattle.world_log.proofs.LogForwarding.{by_action, exits, owned, unowned}
use Rattle.world_log.proofs.log.Log.leave.Goals as goal

pub returns-in-Drop-clause-log : goal.returns-in-Drop-clause-log
unfolding switch_next_of
returns-in-Drop-clause-log c = by_action c.end.result (traveller_standing_kept c.args.at) c.args.at.packet
    c.args.self.now c.end.new.self c.args.switch.now (switch_site_of c.args.site) c.args.decision Drop
    c.in-Drop.is c.end.ensures

pub returns-in-None-clause-log : goal.returns-in-None-clause-log
returns-in-None-clause-log c = unowned c.stuck.result (traveller_standing_kept c.args.at) c.args.at.packet
    c.args.self.now c.stuck.new.self c.args.switch.now (switch_site_of c.args.site) c.args.decision
    c.in-Out.port c.in-Out.is (sym c.owner.ensures ∙ c.in-None.is) c.stuck.ensures

pub returns-then-owner-number-clause-log : goal.returns-then-owner-number-clause-log
returns-then-owner-number-clause-log c = owned c.end-then-owner-number.result
    (traveller_standing_kept c.args.at) c.args.at.packet c.args.self.now c.end-then-owner-number.new.self
    c.args.switch.now (switch_site_of c.args.site) c.args.decision c.in-Out.port c.in-Some.owner true
    c.in-Out.is (sym c.owner.ensures ∙ c.in-Some.is) (eq-eqb c.in-Some.owner
    c.args.switch.now.number (c.if-owner-number.true ∙ c.number.ensures.number))
    (rw c.leaves.ensures at c.end-then-owner-number.ensures)

pub returns-else-owner-number-clause-log : goal.returns-else-owner-number-clause-log
returns-else-owner-number-clause-log c =
    let at = traveller_standing_kept c.args.at in
    let s = c.args.switch.now in
    let site = switch_site_of c.args.site in
    let leg = ExitLeg c.in-Out.port in
    let decision : Decision = record c.args.decision { action = OutBy c.in-Out.port } in
    let to : List ℕ = c.in-Some.owner ∷ [] in
    let Q : Result TunnelValue Cause → Type 0 = λ found.
    LogAfter c.set_out.result (log_set_item at leg found ∷ []) [] c.args.at.packet
    (log_set_flight decision.version decision.rule found) c.args.self.now c.set_out.new.self in
    owned c.set_out.result at c.args.at.packet c.args.self.now c.set_out.new.self s site
    c.args.decision c.in-Out.port c.in-Some.owner false c.in-Out.is
    (sym c.owner.ensures ∙ c.in-Some.is)
    (ne_eqb c.in-Some.owner s.number
    (λ same. c.if-owner-number.false (same ∙ sym c.number.ensures.number)))
    (exits c.set_out.result at c.args.at.packet c.args.self.now c.set_out.new.self decision
    (switch_set_out s site.near (log_packet_standing at) leg to)
    (subst (λ these. Q (switch_set_out s site.near (log_packet_standing at) leg these))
    (rw c.unwrap-targets.ensures at c.new.ensures.list) c.set_out.ensures.log))
