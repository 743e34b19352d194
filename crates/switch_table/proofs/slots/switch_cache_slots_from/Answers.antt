use Rattle.switch_table.specs.Exports.{equal_cache_keys}
use Rattle.switch_table.proofs.slots.switch_cache_slots_from.Goals as goal

pub returns-clause-unique : goal.returns-clause-unique
unfolding equal_cache_keys
returns-clause-unique c = c.len.ensures.unique
