use Rattle.std.proofs.Common.{length}
use Rattle.trace_audit.specs.Exports.{audit_lines_of, trace_state_seen}
use Rattle.trace_audit.proofs.AuditVerdicts.{IsSoFar}
use Rattle.trace_audit.proofs.trace.audit.Given as goal

abbrev pub invariant-loop-rest : goal.invariant-loop-rest
invariant-loop-rest l = IsSoFar l.fn.files l.fn.trace l.rest l.line (trace_state_seen l.auditor)

abbrev pub decreases-loop-rest : goal.decreases-loop-rest
decreases-loop-rest l = length (audit_lines_of l.rest)
