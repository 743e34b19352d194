use Rattle.std.proofs.Common.{◌++◌, ◌≡◌, All}
use Rattle.switch_table.specs.Exports.{HasCacheMaskIn}
use Rattle.switch_table.specs.declared.cache.CacheEntry.{CacheEntry}
use Rattle.switch_table.proofs.masks.CacheMasks.gather.Given as goal

-- the masks of the entries that came are there, and the others are to come
abbrev pub invariant-loop-entry : goal.invariant-loop-entry
invariant-loop-entry l = All (λ (entry : CacheEntry). HasCacheMaskIn l.words.items entry.word) l.yielded
    × (l.yielded ++ l.entry-iterator ≡ l.fn.entries)
