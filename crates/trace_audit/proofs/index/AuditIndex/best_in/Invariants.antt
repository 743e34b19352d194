use Rattle.trace_audit.proofs.AuditIndexedRows.{IsWalked, places_left}
use Rattle.trace_audit.proofs.index.AuditIndex.best_in.Given as goal

abbrev pub invariant-loop-at : goal.invariant-loop-at
invariant-loop-at l = IsWalked l.self.shapes.items l.rows l.slot l.fields l.fn.hit l.best l.at

abbrev pub decreases-loop-at : goal.decreases-loop-at
decreases-loop-at l = places_left l.at
