use Rattle.std.proofs.Common.{rules, subst}
use Rattle.trace_audit.proofs.AuditIndexedRows.{IsWalked, walk_ends, walk_falls, walk_on}
use Rattle.trace_audit.proofs.index.AuditIndex.best_in.Goals as goal

pub loop-at-smaller : goal.loop-at-smaller
loop-at-smaller c = walk_falls c.loop-at.invariant c.requires.index c.in-Some.is
    c.index-rows-place.is c.index-at-in-Some.ensures

pub loop-at-preserved : goal.loop-at-preserved
loop-at-preserved c = walk_on c.loop-at.invariant c.requires.index c.in-Some.is
    c.index-rows-place.is c.index-at-in-Some.ensures c.better-best.ensures

pub returns : goal.returns
returns c = let shapes = c.args.self.now.shapes.items in
    walk_ends shapes c.args.rows.now c.args.slot c.args.fields.now c.args.hit c.loop-at.best
    (subst (IsWalked shapes c.args.rows.now c.args.slot c.args.fields.now c.args.hit c.loop-at.best)
    (search rules) c.loop-at.invariant)
