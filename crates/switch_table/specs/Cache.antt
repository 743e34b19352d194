-- Caches of a switch's rules: a list of entries, no two of one version and word, in the order in
-- which they came.
use Rattle.std.specs.Prelude.{[], if◌then◌else◌, ◌&&◌, ◌++◌, ◌==◌, ◌||◌, ◌∷◌, ◌≤◌, AllPairs, Bool, IsFalse, List, Option, drop, filter, find, length, nat_le, nat_lt, remove, ℕ}
use Rattle.base.specs.Exports.{list_any}
use Rattle.ternary.specs.Exports.{holds, word_eq}
use Rattle.switch_table.specs.declared.cache.CacheEntry.{CacheEntry}

-- the entries in order, and how many there may be
pub record CacheValue : Type 0 where
  pub entries : List CacheEntry
  pub capacity : ℕ

-- the entries have the same version and the same word
unfoldable pub same_cache_key : CacheEntry → CacheEntry → Bool
same_cache_key a b = (a.version == b.version) && word_eq a.word b.word

abbrev pub HaveDistinctCacheKeys : List CacheEntry → Type 0
HaveDistinctCacheKeys entries = AllPairs (λ a b. IsFalse (same_cache_key a b)) entries

-- if there are more than this many, the first one is evicted
abbrev pub newest_cache_entries : ℕ → List CacheEntry → List CacheEntry
newest_cache_entries capacity entries = if nat_lt capacity (length entries) then drop 1 entries
    else entries

-- an entry is added last; one of a version below the stamp, or of an existing key, changes nothing
abbrev pub cache_after_accept : ℕ → CacheEntry → CacheValue → CacheValue
cache_after_accept stamp entry cache =
    if nat_lt entry.version stamp || list_any (same_cache_key entry) cache.entries
    then cache
    else record cache { entries = newest_cache_entries cache.capacity (cache.entries ++ entry ∷ []) }

-- the entry at a place is removed
abbrev pub cache_after_expire : ℕ → CacheValue → CacheValue
cache_after_expire place cache = record cache { entries = remove cache.entries place }

-- the entries of versions below the stamp are removed
abbrev pub cache_after_raise : ℕ → CacheValue → CacheValue
cache_after_raise stamp cache =
    record cache { entries = filter (λ entry. nat_le stamp entry.version) cache.entries }

abbrev pub cache_after_clear : CacheValue → CacheValue
cache_after_clear cache = record cache { entries = [] }

-- what is true of each cache
pub record IsCache (cache : CacheValue) : Type 0 where
  pub distinct : HaveDistinctCacheKeys cache.entries
  pub few : length cache.entries ≤ cache.capacity

-- the first entry of the version whose word holds the header number
abbrev pub first_cache_entry : ℕ → ℕ → List CacheEntry → Option CacheEntry
first_cache_entry version number entries =
    find (λ entry. (entry.version == version) && holds entry.word number) entries
