-- Cache entries as a cache stores them: as pairs, whose keys have a shift added to the versions.
use Rattle.std.specs.Prelude.{◌+◌, ◌<◌, ◌^◌, ◌≤◌, All, List, Option, length, ℕ}
use Rattle.ternary.specs.Exports.{WordValue}
use Rattle.switch_table.specs.Keys.{KeyedCacheEntry, kept_cache_entries}
use Rattle.switch_table.specs.Masks.{HasCacheMaskOf}
use Rattle.switch_table.specs.declared.cache.CacheEntry.{CacheEntry}

-- each number is a version plus the shift
abbrev pub CacheKeysHaveVersions : ℕ → List KeyedCacheEntry → Type 0
CacheKeysHaveVersions shift pairs =
    All (λ pair. (shift ≤ pair.0.number) × (pair.0.number < shift + 2 ^ 32)) pairs

-- no entry is of a later version than this one
abbrev pub AreCacheEntriesUpTo : ℕ → List CacheEntry → Type 0
AreCacheEntriesUpTo newest entries = All (λ entry. entry.version ≤ newest) entries

-- if the masks are known, each entry has one of them
abbrev pub CacheEntriesAreMasked : Option (List WordValue) → List CacheEntry → Type 0
CacheEntriesAreMasked masks entries = All (λ entry. HasCacheMaskOf masks entry.word) entries

-- the pairs are those of at most `capacity` entries, none of a version later than `newest`, and the
-- masks are theirs; the shift fell no more often than the newest version rose
pub record CacheHoldsEntries (masks : Option (List WordValue)) (shift newest capacity : ℕ)
    (pairs : List KeyedCacheEntry) : Type 0 where
  pub fits : shift ≤ 2 ^ 32
  pub falls : 2 ^ 32 ≤ shift + newest
  pub versions : CacheKeysHaveVersions shift pairs
  pub up_to : AreCacheEntriesUpTo newest (kept_cache_entries shift pairs)
  pub masked : CacheEntriesAreMasked masks (kept_cache_entries shift pairs)
  pub few : length (kept_cache_entries shift pairs) ≤ capacity
