use Rattle.switch_table.proofs.CacheSlotRemovals.{nth_here}
use Rattle.switch_table.proofs.slots.nth_live_cache_slot.Goals as goal

pub returns-then-left-eq0-clause-found : goal.returns-then-left-eq0-clause-found
returns-then-left-eq0-clause-found c = λ some.
    nth_here c.args.slots.now c.args.before c.loop-place.left c.loop-place.place _
    c.loop-place-test.true c.if-slot.true c.loop-place.invariant c.if-left-eq0.true
