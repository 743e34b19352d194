use Rattle.std.proofs.Common.{subst, sym}
use Rattle.trace_audit.specs.Exports.{AuditIndexNotes}
use Rattle.trace_audit.proofs.AuditIndexedRows.{notes_pushed}
use Rattle.trace_audit.proofs.index.note.Goals as goal

pub returns-in_ok-push : goal.returns-in_ok-push
returns-in_ok-push c = subst (AuditIndexNotes c.args.shapes.now.items c.args.shape)
    (sym c.in_ok-push.ensures.items) (notes_pushed c.args.shapes.now.items c.args.shape)
