-- What a carry leaves where no entry is of the version or a later one: the shift falls by one.
use Rattle.std.proofs.Common.{[], ◌&&◌, ◌+◌, ◌-◌, ◌<◌, ◌^◌, ◌||◌, ◌∙◌, ◌∷◌, ◌≡◌, ◌≤◌, All, Bool, IfSome, List, None, Option, Some, ap, arith, cond, eq-eqb, eqb, eqb-true, false, filter, filter_map, le-leb, leb, leb-true, not, refl, true, ℕ, rules}
use Rattle.base.proofs.Exports.{All-filter_map, All-head, All-tail, All-weaker, cons_option, false_from_ne_true, filter_passes, list_any}
use Rattle.ternary.specs.Exports.{WordValue}
use Rattle.switch_table.specs.Exports.{CacheEntriesAreMasked, AreCacheEntriesUpTo, HasCacheMaskOf, CacheKeysHaveVersions, KeyedCacheEntry, carried_cache_entry, is_cache_entry_carried, is_carried_cache_key, kept_cache_entries, kept_cache_entry, cache_word_meets_touched, same_cache_key, cache_entry_under}
use Rattle.switch_table.specs.declared.cache.CacheEntry.{CacheEntry}
use Rattle.switch_table.proofs.CachePairs.{HasVersion, same_key_parts}

-- ---- where no entry is of the version or a later one

abbrev pub IsBelow : ℕ → CacheEntry → Type 0
IsBelow version entry = leb version entry.version ≡ false

pub below_newest : (version newest : ℕ) (entries : List CacheEntry) → newest < version
    → AreCacheEntriesUpTo newest entries → All (IsBelow version) entries
below_newest version newest entries later up_to = search (rules, false_from_ne_true, leb-true)

-- no entry has the version
alone_below : (version : ℕ) (entry : CacheEntry) (entries : List CacheEntry)
    → All (IsBelow version) entries → list_any (same_cache_key (cache_entry_under version entry)) entries ≡ false
alone_below version entry [] below = refl
alone_below version entry (x ∷ xs) below =
    let apart : same_cache_key (cache_entry_under version entry) x ≡ false =
    false_from_ne_true (same_cache_key (cache_entry_under version entry) x) (λ same.
    let versions : version ≡ x.version = (same_key_parts (cache_entry_under version entry) x same).0 in
    let there : leb version x.version ≡ true = le-leb version x.version (omega (arith, versions)) in
    absurd (cc ((All-head (IsBelow version) x xs below), there))) in
    ap (λ b. b || list_any (same_cache_key (cache_entry_under version entry)) xs) apart
    ∙ alone_below version entry xs (All-tail (IsBelow version) x xs below)

-- ---- which pairs stay

-- the pairs of the version under the lower shift
abbrev pub pairs_over : ℕ → ℕ → List WordValue → List KeyedCacheEntry → List KeyedCacheEntry
pairs_over shift version touched pairs =
    filter (λ (pair : KeyedCacheEntry). is_carried_cache_key (version + (shift - 1)) touched pair.0) pairs

-- the entry is of the version before, as its number says
before_is : (shift version number : ℕ) → 0 < shift → shift ≤ number
    → eqb number (version + (shift - 1)) ≡ eqb (number - shift + 1) version
before_is shift version number some fits = search (rules, eq-eqb, eqb-true, false_from_ne_true)

-- an entry that goes over keeps its pair
entry_stays : (shift version : ℕ) (touched : List WordValue) (pair : KeyedCacheEntry) → 0 < shift
    → is_carried_cache_key (version + (shift - 1)) touched pair.0 ≡ true
    → kept_cache_entry (shift - 1) pair ≡ cache_entry_under version (kept_cache_entry shift pair)
entry_stays shift version touched pair some is = search (rules, eqb-true)

left_of : (version : ℕ) (entry : CacheEntry) (goes before apart stays there : Bool)
    → goes ≡ (before && apart) → stays ≡ false → there ≡ false
    → cond goes (Some (cache_entry_under version entry)) None
    ≡ cond stays (Some entry) (cond (before && apart && not there) (Some (cache_entry_under version entry)) None)
left_of version entry goes before apart stays there is h8 h9 = search rules

-- the pairs that stay are those of what is left of the entries
pub carried_pairs : (shift version : ℕ) (touched : List WordValue) (entries : List CacheEntry)
    (pairs : List KeyedCacheEntry) → 0 < shift → CacheKeysHaveVersions shift pairs → All (IsBelow version) entries
    → All (IsBelow version) (kept_cache_entries shift pairs)
    → kept_cache_entries (shift - 1) (pairs_over shift version touched pairs)
    ≡ filter_map (carried_cache_entry version touched entries) (kept_cache_entries shift pairs)
carried_pairs shift version touched entries [] some are all below = refl
carried_pairs shift version touched entries (pair ∷ pairs) some are all below =
    let entry = kept_cache_entry shift pair in
    let old = kept_cache_entries shift pairs in
    let goes : is_carried_cache_key (version + (shift - 1)) touched pair.0
    ≡ (eqb (entry.version + 1) version && not (cache_word_meets_touched touched entry.word)) =
    ap (λ b. b && not (cache_word_meets_touched touched entry.word))
    (before_is shift version pair.0.number some (All-head (HasVersion shift) pair pairs are).0) in
    let left = left_of version entry (is_carried_cache_key (version + (shift - 1)) touched pair.0)
    (eqb (entry.version + 1) version) (not (cache_word_meets_touched touched entry.word))
    (leb version entry.version) (list_any (same_cache_key (cache_entry_under version entry)) entries) goes
    (All-head (IsBelow version) entry old below) (alone_below version entry entries all) in
    by_case (is_carried_cache_key (version + (shift - 1)) touched pair.0) refl
    (filter_map (carried_cache_entry version touched entries) old)
    (carried_pairs shift version touched entries pairs some
    (All-tail (HasVersion shift) pair pairs are) all (All-tail (IsBelow version) entry old below))
    ∙ ap (λ o. cons_option o (filter_map (carried_cache_entry version touched entries) old)) left
  where
    kept : List KeyedCacheEntry
    kept = pairs_over shift version touched pairs

    by_case : (stays : Bool) → is_carried_cache_key (version + (shift - 1)) touched pair.0 ≡ stays
        → (rest : List CacheEntry) → kept_cache_entries (shift - 1) kept ≡ rest
        → kept_cache_entries (shift - 1) (cond stays (pair ∷ kept) kept)
        ≡ cons_option (cond stays (Some (cache_entry_under version (kept_cache_entry shift pair))) None) rest
    by_case true is rest same =
        let here = entry_stays shift version touched pair some is in λ i. here i ∷ same i
    by_case false is rest same = same

pub versions_over : (shift version : ℕ) (touched : List WordValue) (pairs : List KeyedCacheEntry) → 0 < shift
    → version < 2 ^ 32 → CacheKeysHaveVersions (shift - 1) (pairs_over shift version touched pairs)
versions_over shift version touched pairs some small = search (rules, filter_passes, eqb-true)

-- ---- what is left

-- those that are left keep their words
pub masked_carried : (masks : Option (List WordValue)) (version : ℕ) (touched : List WordValue)
    (entries : List CacheEntry) → CacheEntriesAreMasked masks entries
    → CacheEntriesAreMasked masks (filter_map (carried_cache_entry version touched entries) entries)
masked_carried masks version touched entries masked = All-filter_map IsMasked
    (carried_cache_entry version touched entries) entries (All-weaker IsMasked
    (λ entry. IfSome (carried_cache_entry version touched entries entry) IsMasked) (λ entry is. by_case
    entry (leb version entry.version) (is_cache_entry_carried version touched entries entry) is) entries masked)
  where
    IsMasked : CacheEntry → Type 0
    IsMasked entry = HasCacheMaskOf masks entry.word

    by_case : (entry : CacheEntry) (stays goes : Bool) → HasCacheMaskOf masks entry.word
        → IfSome (cond stays (Some entry) (cond goes (Some (cache_entry_under version entry)) None)) IsMasked
    by_case entry true _ is = is
    by_case entry false true is = is
    by_case entry false false _ = tt

-- no entry is of a later version then
pub up_to_carried : (version newest next : ℕ) (touched : List WordValue)
    (entries : List CacheEntry) → AreCacheEntriesUpTo newest entries → newest ≤ next → version ≤ next
    → AreCacheEntriesUpTo next (filter_map (carried_cache_entry version touched entries) entries)
up_to_carried version newest next touched entries up_to old new = All-filter_map IsUpTo
    (carried_cache_entry version touched entries) entries
    (All-weaker (λ (entry : CacheEntry). entry.version ≤ newest) (λ entry. IfSome
    (carried_cache_entry version touched entries entry) IsUpTo) (λ entry le. by_case entry
    (leb version entry.version) (is_cache_entry_carried version touched entries entry) le) entries up_to)
  where
    IsUpTo : CacheEntry → Type 0
    IsUpTo entry = entry.version ≤ next

    by_case : (entry : CacheEntry) (stays goes : Bool) → entry.version ≤ newest
        → IfSome (cond stays (Some entry) (cond goes (Some (cache_entry_under version entry)) None)) IsUpTo
    by_case entry true _ le = omega (arith, le, old)
    by_case entry false true _ = new
    by_case entry false false _ = tt
