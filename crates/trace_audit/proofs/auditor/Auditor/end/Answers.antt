use Rattle.std.proofs.Common.{refl, rules, sym}
use Rattle.policy_rules.proofs.PolicyRulesCallerLemmas.{none_from_not_some}
use Rattle.trace_audit.specs.Exports.{audit_packet_seen}
use Rattle.trace_audit.proofs.AuditLineMoves.{put_after}
use Rattle.trace_audit.proofs.auditor.Auditor.end.Goals as goal

pub returns : goal.returns
returns c = λ files. (
  record {
    packet = audit_packet_seen c.in-Some.packet;
    entered = sym c.in-Some.ensures;
    not_ended = none_from_not_some (audit_packet_seen c.in-Some.packet).end (search rules);
    may = c.if-not-may_trace_packet_end.ensures.0 refl;
    after = put_after c.args.self.now c.args.number _ _ _ c.ended.ensures c.in_ok-put.ensures;
  },
  refl,
)
