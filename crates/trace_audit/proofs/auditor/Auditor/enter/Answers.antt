use Rattle.std.proofs.Common.{refl, rules}
use Rattle.base.proofs.Exports.{none_seen}
use Rattle.trace_audit.specs.Exports.{audit_packet_seen}
use Rattle.trace_audit.proofs.AuditLineMoves.{put_after}
use Rattle.trace_audit.proofs.auditor.Auditor.enter.Goals as goal

pub returns : goal.returns
returns c = λ files. (
  c.in-Some.header,
  c.in-Some.is,
  record {
    unknown = none_seen audit_packet_seen c.get.result _ c.get.ensures (search rules);
    after = put_after c.args.self.now c.args.number _ _ _ c.new.ensures c.in_ok-put.ensures;
  },
  refl,
)
