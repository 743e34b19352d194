use Rattle.std.proofs.Common.{take}
use Rattle.trace_audit.specs.Exports.{AreAuditShapesOf}
use Rattle.trace_audit.proofs.index.audit_row_shapes_of.Given as goal

abbrev pub invariant-loop-row : goal.invariant-loop-row
invariant-loop-row l = AreAuditShapesOf (take l.row-index l.rows) l.shapes.items
