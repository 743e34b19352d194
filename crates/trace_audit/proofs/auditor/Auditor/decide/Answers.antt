use Rattle.std.proofs.Common.{◌∙◌, arith, refl, rules, sym}
use Rattle.base.proofs.Exports.{none_made_of}
use Rattle.update_machine.specs.Exports.{Hit}
use Rattle.policy_rules.proofs.PolicyRulesCallerLemmas.{none_from_not_some}
use Rattle.trace_audit.specs.Exports.{audit_packet_seen}
use Rattle.trace_audit.proofs.AuditLineMoves.{not_decided, policy_there, put_after}
use Rattle.trace_audit.proofs.auditor.Auditor.decide.Goals as goal

pub returns-then-not-is_printed_in_trace : goal.returns-then-not-is_printed_in_trace
returns-then-not-is_printed_in_trace c = λ files other f. not_decided _ other.machine c.args.number
    c.args.version c.args.rule.now c.args.action.now (audit_packet_seen c.in-Some.packet)
    c.in-Some-get.policy.now c.first_match-hit.result f.0 (sym c.in-Some.ensures) (policy_there _ _
    _ _ c.deref.ensures.value (sym c.in-Some-get.ensures.lookup.0) c.in-Some-get.ensures.lookup.1)
    (λ hit is. c.first_match-hit.ensures.only hit (rw c.header.ensures is))
    (λ printed. absurd (search (rules, c.is_printed_in_trace.ensures.1 printed))) f.1 f.2

pub returns : goal.returns
returns c = λ files. (
  c.first_match-hit.result,
  c.if-not-is_printed_in_trace.ensures.0 refl,
  record {
    packet = audit_packet_seen c.in-Some.packet;
    policy = c.in-Some-get.policy.now;
    entered = sym c.in-Some.ensures;
    undecided = none_made_of (λ (hit : Hit). hit.action) (audit_packet_seen c.in-Some.packet).decision
        c.action.result c.action.ensures (sym c.is_some.ensures ∙ c.if-is_some.false);
    not_ended = none_from_not_some (audit_packet_seen c.in-Some.packet).end (search rules);
    not_retired = omega arith;
    submitted = policy_there _ _ _ _ c.deref.ensures.value (sym c.in-Some-get.ensures.lookup.0)
        c.in-Some-get.ensures.lookup.1;
    first_match = rw c.header.ensures at c.first_match-hit.ensures.is;
    after = put_after c.args.self.now c.args.number _ _ _ c.decided.ensures c.in_ok-put.ensures;
  },
  refl,
)
