use Rattle.std.proofs.Common.{IfOk, subst, sym}
use Rattle.update_machine.specs.Exports.{Item}
use Rattle.journal_reports.specs.Exports.{IsReportTrafficAfter}
use Rattle.journal_reports.proofs.QuietReadItems.{after_sent}
use Rattle.journal_reports.proofs.traffic.Traffic.take_report_item.Goals as goal

pub returns-in-Sent : goal.returns-in-Sent
returns-in-Sent c =
    let marks = c.args.delivered.now in
    let row = c.args.self.now in
    let now = c.take_message.new.self in
    subst (λ (next : Item). IfOk c.take_message.result (λ answer. IsReportTrafficAfter marks next row now answer))
    (sym c.in-Sent.is)
    (after_sent marks c.in-Sent.number c.in-Sent.message row now c.is_report_delivery_marked-is_delivered.result
    c.take_message.result c.is_report_delivery_marked-is_delivered.ensures c.take_message.ensures.status
    c.take_message.ensures.in_boot c.take_message.ensures.count c.take_message.ensures.kept
    c.take_message.ensures.received)
