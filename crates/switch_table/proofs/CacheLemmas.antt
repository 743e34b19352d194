-- What each call keeps of a cache.
use Rattle.std.proofs.Common.{[], ◌++◌, ◌+◌, ◌<◌, ◌∷◌, ◌≡◌, ◌≤◌, List, ap, arith, drop, false, inl, inr, le-ltb, length, length-append, lt-ltb, nat_lt, refl, remove, suc, zero, ℕ, rules}
use Rattle.base.proofs.Exports.{AllPairs-filter, all_pairs_remove, cases_lt, count_by-le-length, length-filter, length-remove, list_any}
use Rattle.switch_table.specs.Exports.{CacheValue, HaveDistinctCacheKeys, IsCache, cache_after_accept, cache_after_clear, cache_after_expire, cache_after_raise, newest_cache_entries, same_cache_key}
use Rattle.switch_table.specs.declared.cache.CacheEntry.{CacheEntry}
use Rattle.switch_table.proofs.CachePairs.{none_distinct, push_distinct, rest_distinct}

pub cache_begun : (capacity : ℕ) → IsCache (record { entries = []; capacity = capacity })
cache_begun capacity = record { distinct = none_distinct; few = omega arith }

pub cache_cleared : (cache : CacheValue) → IsCache cache → IsCache (cache_after_clear cache)
cache_cleared cache is = record { distinct = none_distinct; few = omega arith }

pub cache_raised : (stamp : ℕ) (cache : CacheValue) → IsCache cache
    → IsCache (cache_after_raise stamp cache)
cache_raised stamp cache is = search (rules, AllPairs-filter, length-filter, count_by-le-length)

remove_past : (entries : List CacheEntry) (place : ℕ) → length entries ≤ place →
    remove entries place ≡ entries
remove_past [] zero past = refl
remove_past [] (suc place) past = refl
remove_past (x ∷ xs) zero past = absurd (omega arith)
remove_past (x ∷ xs) (suc place) past = ap (λ rest. x ∷ rest) (remove_past xs place (omega arith))

pub cache_expired : (place : ℕ) (cache : CacheValue) → IsCache cache
    → IsCache (cache_after_expire place cache)
cache_expired place cache is = elim (cases_lt place (length cache.entries)) [
  | inl within ↦ record {
    distinct = all_pairs_remove (λ a b. same_cache_key a b ≡ false) cache.entries place within
        is.distinct;
    few = omega (arith, length-remove cache.entries place within, is.few);
  }
  | inr past ↦ rw (remove_past cache.entries place past) is
]

pub length-rest : (entries : List CacheEntry) (most : ℕ) → length entries ≤ most + 1 →
    length (drop 1 entries) ≤ most
length-rest entries most few = search rules

newest_is : (capacity : ℕ) (entries : List CacheEntry) → HaveDistinctCacheKeys entries →
    length entries ≤ capacity + 1 →
    IsCache (record { entries = newest_cache_entries capacity entries; capacity = capacity })
newest_is capacity entries pairs few = search (rules, lt-ltb, rest_distinct, length-rest, le-ltb)

pub cache_accepted : (stamp : ℕ) (entry : CacheEntry) (cache : CacheValue) → IsCache cache →
    IsCache (cache_after_accept stamp entry cache)
cache_accepted stamp entry cache is = search (rules, newest_is, push_distinct, length-append)

-- a new entry of a full cache evicts the first one
pub first_evicted : (stamp : ℕ) (entry : CacheEntry) (cache : CacheValue)
    → nat_lt entry.version stamp ≡ false → list_any (same_cache_key entry) cache.entries ≡ false
    → cache.capacity < length (cache.entries ++ entry ∷ [])
    → record { entries = drop 1 (cache.entries ++ entry ∷ []); capacity = cache.capacity }
    ≡ cache_after_accept stamp entry cache
first_evicted stamp entry cache late absent full = search (rules, lt-ltb)
