use Rattle.trace_audit.proofs.AuditIndexedRows.{IsSought}
use Rattle.trace_audit.proofs.index.AuditIndex.best.Given as goal

abbrev pub invariant-loop-place : goal.invariant-loop-place
invariant-loop-place l = IsSought l.self.shapes.items l.rows l.fields l.place l.best
