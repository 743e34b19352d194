use Rattle.trace_audit.specs.Exports.{IsAuditIndexUpTo}
use Rattle.trace_audit.proofs.index.AuditIndex.of.Given as goal

abbrev pub invariant-loop-place : goal.invariant-loop-place
invariant-loop-place l = IsAuditIndexUpTo l.rows l.place l.index
