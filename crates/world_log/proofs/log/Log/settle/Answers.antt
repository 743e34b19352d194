-- What was written of a packet is its switch's answer.
use Rattle.std.proofs.Common.{[], ◌+◌, ◌∙◌, ◌∷◌, List, length, map, subst, sym}
use Rattle.base.proofs.Exports.{both_written}
use Rattle.update_machine.specs.Exports.{Item, machine_sent_items_from}
use Rattle.journal.specs.declared.item.Item.TheVariants as item
use Rattle.message_bag.specs.Exports.{Post, new_bag_post}
use Rattle.switch_core.specs.Exports.{switch_arrival_by_forwarding, switch_core_cache_rule, switch_set_out, switch_site_of}
use Rattle.switch_core.specs.declared.forwarding.Forwarding.{Forwarding}
use Rattle.travelling.specs.Travelling.{traveller_standing_kept}
use Rattle.world_log.specs.Exports.{LogAfter, log_arrived_flight, log_arrived_items, log_arrived_posts, log_cache_message, log_message_list, log_packet_standing}
use Rattle.world_log.proofs.LogForwarding.{sought}
use Rattle.world_log.proofs.LogCalls.{log_ends, log_failed, log_unwritten}
use Rattle.world_log.proofs.LogStepWrites.{part_first}
use Rattle.world_log.proofs.log.Log.settle.Goals as goal

pub returns-in-Out-clause-log : goal.returns-in-Out-clause-log
returns-in-Out-clause-log c =
    let at = traveller_standing_kept c.args.at in
    let P : Forwarding → Type 0 = λ forwarding.
    let what = switch_arrival_by_forwarding c.args.switch.now (switch_site_of c.args.site) (log_packet_standing at) forwarding in
    LogAfter c.end.result
    (log_arrived_items (length c.args.self.now.bag + 1) at c.args.at.version c.args.at.rule what)
    (log_arrived_posts at what) c.args.at.packet
    (log_arrived_flight c.args.at.version c.args.at.rule what) c.args.self.now c.end.new.self in
    subst P (sym c.in-Out.is)
    (rw c.leaves.ensures at c.end.ensures)

pub returns-in_err-push-in-Decided-clause-log : goal.returns-in_err-push-in-Decided-clause-log
returns-in_err-push-in-Decided-clause-log c =
    log_unwritten c.from_residual.ensures.0 c.in_err-push-in-Decided.ensures.unchanged

pub returns-in_err-send_rule-in-Decided-clause-log : goal.returns-in_err-send_rule-in-Decided-clause-log
returns-in_err-send_rule-in-Decided-clause-log c =
    let at = traveller_standing_kept c.args.at in
    let P : Forwarding → Type 0 = λ forwarding.
    let what = switch_arrival_by_forwarding c.args.switch.now (switch_site_of c.args.site) (log_packet_standing at) forwarding in
    LogAfter c.from_residual-in_err-send_rule-in-Decided.result
    (log_arrived_items (length c.args.self.now.bag + 1) at c.args.at.version c.args.at.rule what)
    (log_arrived_posts at what) c.args.at.packet
    (log_arrived_flight c.args.at.version c.args.at.rule what) c.args.self.now
    c.send_rule.new.self in
    subst P (sym c.in-Decided.is)
    (log_failed c.from_residual-in_err-send_rule-in-Decided.result _ _ _ _ _ _
    c.from_residual-in_err-send_rule-in-Decided.ensures.0
    (part_first _ _ _ _ (c.in_err-send_rule-in-Decided.ensures.unwritten ∙ c.in_ok-push-in-Decided.ensures.pushed)))

pub returns-in_ok-send_rule-in-Decided-clause-log : goal.returns-in_ok-send_rule-in-Decided-clause-log
returns-in_ok-send_rule-in-Decided-clause-log c =
    let at = traveller_standing_kept c.args.at in
    let decision = c.in-Decided.decision in
    let message = log_cache_message at.ingress (switch_core_cache_rule decision c.in-Decided.word) in
    let decided : Item = item.Decided at.packet decision.version decision.rule decision.action
    decision.how in
    let sends : List Item = machine_sent_items_from (length c.args.self.now.bag + 1) (log_message_list message) in
    let posts : List Post = map new_bag_post (log_message_list message) in
    let P : Forwarding → Type 0 = λ forwarding.
    let what = switch_arrival_by_forwarding c.args.switch.now (switch_site_of c.args.site) (log_packet_standing at) forwarding in
    LogAfter c.leave.result
    (log_arrived_items (length c.args.self.now.bag + 1) at c.args.at.version c.args.at.rule what)
    (log_arrived_posts at what) c.args.at.packet
    (log_arrived_flight c.args.at.version c.args.at.rule what) c.args.self.now
    c.leave.new.self in
    subst P (sym c.in-Decided.is)
    (log_ends c.leave.result (decided ∷ sends) _ posts c.args.at.packet _ c.args.self.now
    c.send_rule.new.self c.leave.new.self
    (both_written c.args.self.now.journal _ c.send_rule.new.self.journal (decided ∷ []) sends
    c.in_ok-push-in-Decided.ensures.pushed c.in_ok-send_rule-in-Decided.ensures.written)
    c.in_ok-send_rule-in-Decided.ensures.posted c.in_ok-send_rule-in-Decided.ensures.travelling c.leave.ensures.log)

pub returns-in-Seek-clause-log : goal.returns-in-Seek-clause-log
returns-in-Seek-clause-log c =
    let at = traveller_standing_kept c.args.at in
    let site = switch_site_of c.args.site in
    let s = c.args.switch.now in
    let leg = c.in-Seek.leg in
    let P : Forwarding → Type 0 = λ forwarding.
    let what = switch_arrival_by_forwarding s site (log_packet_standing at) forwarding in
    LogAfter c.set_out.result
    (log_arrived_items (length c.args.self.now.bag + 1) at c.args.at.version c.args.at.rule what)
    (log_arrived_posts at what) c.args.at.packet
    (log_arrived_flight c.args.at.version c.args.at.rule what) c.args.self.now
    c.set_out.new.self in
    subst P (sym c.in-Seek.is)
    (sought c.set_out.result at c.args.at.packet c.args.self.now c.set_out.new.self
    (length c.args.self.now.bag + 1) leg c.args.at.version c.args.at.rule
    (switch_set_out s site.near (log_packet_standing at) leg c.in-Seek.targets) c.set_out.ensures.log)
