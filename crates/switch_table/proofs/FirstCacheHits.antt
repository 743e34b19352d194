-- The first entry that holds a header, by the keys of its masks.
use Rattle.std.proofs.Common.{[], ◌&&◌, ◌+◌, ◌∙◌, ◌∷◌, ◌≡◌, Bool, List, Option, Some, ap, cond, eqb, eqb-true, false, find, option_map, refl, sym, true, ℕ, rules}
use Rattle.base.proofs.Exports.{All-head, All-tail, list_any, list_any-both, nat_tests}
use Rattle.ternary.specs.Exports.{WordValue, holds}
use Rattle.switch_table.specs.Exports.{CacheEntriesAreMasked, HasCacheMaskIn, CacheKeysHaveVersions, KeyedCacheEntry, equal_cache_keys, first_cache_entry, is_cache_key_hit, kept_cache_entries, kept_cache_entry, cache_key_of, cache_key_under}
use Rattle.switch_table.specs.declared.cache.CacheEntry.{CacheEntry}
use Rattle.switch_table.proofs.CachePairs.{HasVersion, key_of_entry}

abbrev pub holds_of : ℕ → ℕ → CacheEntry → Bool
holds_of version header entry = eqb entry.version version && holds entry.word header

-- a key of one mask is the entry's where the entry holds the header and has the mask
key_is : (shift version header : ℕ) (masks : List WordValue) (entry : CacheEntry)
    (mask : WordValue) → HasCacheMaskIn masks entry.word →
    equal_cache_keys (cache_key_under (version + shift) header mask) (cache_key_of shift entry)
    ≡ (holds_of version header entry && eqb mask.mask entry.word.mask)
unfolding equal_cache_keys holds
key_is shift version header masks entry mask has = search (rules, nat_tests, eqb-true)

-- whether the entry is of the version and holds the header, by its key
pub entry_hit : (shift version header : ℕ) (masks : List WordValue) (entry : CacheEntry) →
    HasCacheMaskIn masks entry.word →
    holds_of version header entry ≡ is_cache_key_hit (version + shift) header masks (cache_key_of shift entry)
entry_hit shift version header masks entry has =
    sym ((λ i. list_any (λ mask. key_is shift version header masks entry mask has i) masks)
    ∙ list_any-both (holds_of version header entry) (λ mask. eqb mask.mask entry.word.mask) masks
    ∙ ap (λ b. holds_of version header entry && b) has.there ∙ and_true (holds_of version header entry))
  where
    and_true : (b : Bool) → (b && true) ≡ b
    and_true true = refl
    and_true false = refl

-- whether the pair's key is such a one, by its entry
pair_hit : (shift version header : ℕ) (masks : List WordValue) (pair : KeyedCacheEntry)
    → HasVersion shift pair → HasCacheMaskIn masks pair.0.word
    → is_cache_key_hit (version + shift) header masks pair.0 ≡ holds_of version header (kept_cache_entry shift pair)
pair_hit shift version header masks pair is has =
    sym (entry_hit shift version header masks (kept_cache_entry shift pair) has
    ∙ ap (is_cache_key_hit (version + shift) header masks) (key_of_entry shift pair is))

pub first_by_hits : (shift version header : ℕ) (masks : List WordValue) (pairs : List KeyedCacheEntry)
    → CacheKeysHaveVersions shift pairs → CacheEntriesAreMasked (Some masks) (kept_cache_entries shift pairs)
    → option_map (kept_cache_entry shift)
    (find (λ (pair : KeyedCacheEntry). is_cache_key_hit (version + shift) header masks pair.0) pairs)
    ≡ first_cache_entry version header (kept_cache_entries shift pairs)
first_by_hits shift version header masks [] are masked = refl
first_by_hits shift version header masks (pair ∷ pairs) are masked =
    let IsMasked = λ (entry : CacheEntry). HasCacheMaskIn masks entry.word in
    let here = pair_hit shift version header masks pair (All-head (HasVersion shift) pair pairs are)
    (All-head IsMasked (kept_cache_entry shift pair) (kept_cache_entries shift pairs) masked) in
    let left = first_cache_entry version header (kept_cache_entries shift pairs) in
    by_case (is_cache_key_hit (version + shift) header masks pair.0) left
    (first_by_hits shift version header masks pairs (All-tail (HasVersion shift) pair pairs are)
    (All-tail IsMasked (kept_cache_entry shift pair) (kept_cache_entries shift pairs) masked))
    ∙ ap (λ b. cond b (Some (kept_cache_entry shift pair)) left) here
  where
    found : Option KeyedCacheEntry
    found = find (λ (p : KeyedCacheEntry). is_cache_key_hit (version + shift) header masks p.0) pairs

    by_case : (b : Bool) (left : Option CacheEntry) → option_map (kept_cache_entry shift) found ≡ left
        → option_map (kept_cache_entry shift) (cond b (Some pair) found)
        ≡ cond b (Some (kept_cache_entry shift pair)) left
    by_case true left rest = refl
    by_case false left rest = rest
