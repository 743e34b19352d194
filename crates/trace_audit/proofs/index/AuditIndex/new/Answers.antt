use Rattle.std.proofs.Common.{rules}
use Rattle.trace_audit.proofs.AuditIndexedRows.{none_indexed}
use Rattle.trace_audit.proofs.index.AuditIndex.new.Goals as goal

pub returns : goal.returns
returns c = λ rows are. none_indexed rows _ are
    (c.in_ok-vec.ensures.items_if_clones_equal (search rules)) c.new.ensures.items
