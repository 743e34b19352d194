-- The laws of caches: `learnt_cache_laws` and `learnt_cache_carry_laws` of the crate ensure the
-- records.
use Rattle.std.specs.Prelude.{[], ◌+◌, ◌≡◌, ◌≤◌, ◌⊎◌, All, Any, Contains, IsFalse, List, ℕ}
use Rattle.ternary.specs.Exports.{WordValue}
use Rattle.switch_table.specs.Cache.{CacheValue, IsCache, cache_after_accept, cache_after_expire, cache_after_raise, cache_after_clear}
use Rattle.switch_table.specs.Carried.{cache_after_carry, cache_all_touched, cache_word_meets_touched, cache_entry_under}
use Rattle.switch_table.specs.declared.cache.CacheEntry.{CacheEntry}

-- after any calls, a cache that began empty has distinct keys and no more entries than its capacity
pub record CacheLaws : Type 0 where
  pub begun : (capacity : ℕ) → IsCache (record { entries = []; capacity = capacity })
  pub kept_by_accept : (stamp : ℕ) (entry : CacheEntry) (cache : CacheValue) → IsCache cache →
      IsCache (cache_after_accept stamp entry cache)
  pub kept_by_expire : (place : ℕ) (cache : CacheValue) → IsCache cache →
      IsCache (cache_after_expire place cache)
  pub kept_by_raise : (stamp : ℕ) (cache : CacheValue) → IsCache cache →
      IsCache (cache_after_raise stamp cache)
  pub kept_by_clear : (cache : CacheValue) → IsCache cache → IsCache (cache_after_clear cache)
  pub kept_by_carry : (version : ℕ) (touched : List WordValue) (cache : CacheValue) →
      IsCache cache → IsCache (cache_after_carry version touched cache)

-- the entry was carried: it is one of the version before whose word meets no touched one
pub record WasCacheEntryCarried (version : ℕ) (touched : List WordValue) (cache : CacheValue)
    (entry : CacheEntry) : Type 0 where
  pub old : CacheEntry
  pub there : Contains cache.entries old
  pub before : old.version + 1 ≡ version
  pub apart : IsFalse (cache_word_meets_touched touched old.word)
  pub is : entry ≡ cache_entry_under version old

pub record CacheCarryLaws : Type 0 where
  -- for an entry of the version before whose word meets no touched one, there is one under the
  -- version: the same entry or, if one of its word came before the change did, that one
  pub untouched : (version : ℕ) (touched : List WordValue) (cache : CacheValue)
      (entry : CacheEntry) → Contains cache.entries entry → entry.version + 1 ≡ version →
      IsFalse (cache_word_meets_touched touched entry.word) →
      Any (λ kept. (kept.version ≡ version) × (kept.word ≡ entry.word))
      (cache_after_carry version touched cache).entries
  -- each entry was there before, or was carried
  pub only : (version : ℕ) (touched : List WordValue) (cache : CacheValue) →
      All (λ entry. ((version ≤ entry.version) × Contains cache.entries entry)
      ⊎ WasCacheEntryCarried version touched cache entry) (cache_after_carry version touched cache).entries
  -- if everything is touched, the entries of earlier versions are removed
  pub all : (version : ℕ) (cache : CacheValue) →
      cache_after_carry version cache_all_touched cache ≡ cache_after_raise version cache
