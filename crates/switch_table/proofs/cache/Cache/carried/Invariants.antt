use Rattle.std.proofs.Common.{◌++◌, ◌≡◌, filter_map}
use Rattle.switch_table.specs.Exports.{carried_cache_entry}
use Rattle.switch_table.proofs.cache.Cache.carried.Given as goal

-- the cache has what is left of the entries that came, and the others are to come
abbrev pub invariant-loop-entry : goal.invariant-loop-entry
invariant-loop-entry l = (l.cache ≡ record {
  entries = filter_map (carried_cache_entry l.version l.touched l.fn.self.entries) l.yielded;
  capacity = l.fn.self.capacity;
}) × (l.yielded ++ l.entry-iterator ≡ l.fn.self.entries)
