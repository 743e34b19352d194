use Rattle.trace_audit.proofs.index.AuditIndex.of.Goals as goal

pub loop-place-init : goal.loop-place-init
loop-place-init c = let rows = c.args.rows.now in
    c.in_ok-index.ensures rows
    (rw c.in-Some.is at c.in_ok-shapes.ensures)
