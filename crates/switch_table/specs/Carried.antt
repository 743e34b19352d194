-- Cache entries that outlive a change of the policy: those that meet no touched word are carried to
-- the version that the change makes.
use Rattle.std.specs.Prelude.{[], if◌then◌else◌, ◌&&◌, ◌+◌, ◌==◌, ◌∷◌, Bool, List, None, Option, Some, filter_map, length, nat_le, nat_lt, not, ℕ}
use Rattle.base.specs.Exports.{list_any}
use Rattle.ternary.specs.Exports.{WordValue, any_word, word_meets}
use Rattle.switch_table.specs.Cache.{CacheValue, same_cache_key}
use Rattle.switch_table.specs.declared.cache.CacheEntry.{CacheEntry}

-- the one word that every word meets
abbrev pub cache_all_touched : List WordValue
cache_all_touched = any_word ∷ []

-- these words, if there are at most 16, otherwise only the word that every word meets
abbrev pub cache_few_touched : List WordValue → List WordValue
cache_few_touched words = if nat_lt 16 (length words) then cache_all_touched else words

-- the word meets one of these
abbrev pub cache_word_meets_touched : List WordValue → WordValue → Bool
cache_word_meets_touched touched word = list_any (word_meets word) touched

-- the entry under another version
abbrev pub cache_entry_under : ℕ → CacheEntry → CacheEntry
cache_entry_under version entry = record entry { version = version }

-- the entry is one of the version before, its word meets no touched word, and no entry of the
-- version has its word
abbrev pub is_cache_entry_carried : ℕ → List WordValue → List CacheEntry → CacheEntry → Bool
is_cache_entry_carried version touched entries entry =
    (entry.version + 1 == version) && not (cache_word_meets_touched touched entry.word)
    && not (list_any (same_cache_key (cache_entry_under version entry)) entries)

-- what becomes of an entry of a cache that is carried to a version: one of that version or a later
-- one stays, and one of an earlier version is carried or removed
abbrev pub carried_cache_entry : ℕ → List WordValue → List CacheEntry → CacheEntry → Option CacheEntry
carried_cache_entry version touched entries entry =
    if nat_le version entry.version then Some entry
    else if is_cache_entry_carried version touched entries entry then Some (cache_entry_under version entry)
    else None

-- the cache is carried to the version, with these words touched: what is left keeps its order
abbrev pub cache_after_carry : ℕ → List WordValue → CacheValue → CacheValue
cache_after_carry version touched cache =
    record cache { entries = filter_map (carried_cache_entry version touched cache.entries) cache.entries }
