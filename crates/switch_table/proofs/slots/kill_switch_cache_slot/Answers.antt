use Rattle.switch_table.proofs.CacheSlotRemovals.{set_at_killed}
use Rattle.switch_table.proofs.slots.kill_switch_cache_slot.Goals as goal

pub returns-in-Some : goal.returns-in-Some
returns-in-Some c = λ slot there. set_at_killed c.args.map.now.entries c.args.place slot
    c.in-Some.slot.now c.in-Some.ensures.value there
