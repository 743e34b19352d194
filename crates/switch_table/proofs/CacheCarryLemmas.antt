-- What a cache keeps when it is carried to a version.
use Rattle.std.proofs.Common.{[], ◌&&◌, ◌++◌, ◌+◌, ◌||◌, ◌∙◌, ◌∷◌, ◌≡◌, ◌≤◌, ◌⊎◌, All, AllPairs, Any, Bool, Contains, IfSome, List, None, Option, Some, ap, arith, cond, drop, eq-eqb, eqb, eqb-true, false, filter, filter_map, get_or, inl, inr, le-leb, le-ltb, leb, leb-true, length, length-append, not, refl, subst, sym, true, ℕ, rules}
use Rattle.base.proofs.Exports.{All-contains_itself, All-filter_map, All-weaker, AllPairs-filter_map, Any-from_list_any, Contains-filter_map, cons_option, false_from_ne_true, filter_map-append, get_or_default, length-filter_map, list_any, list_any-from_Any}
use Rattle.ternary.specs.Exports.{WordValue, any_word}
use Rattle.ternary.proofs.TernaryCallerLemmas.{any_covers, meets_cover}
use Rattle.switch_table.specs.Exports.{CacheValue, HaveDistinctCacheKeys, IsCache, WasCacheEntryCarried, cache_after_accept, cache_after_carry, cache_after_raise, cache_all_touched, carried_cache_entry, is_cache_entry_carried, cache_word_meets_touched, same_cache_key, cache_entry_under}
use Rattle.switch_table.specs.declared.cache.CacheEntry.{CacheEntry}
use Rattle.switch_table.proofs.CachePairs.{apart-sym, none_before, same_key_from, same_key_parts}

-- ---- an entry that goes over

pub meets_all : (word : WordValue) → cache_word_meets_touched cache_all_touched word ≡ true
meets_all word = ap (λ b. b || false) (meets_cover any_word word (any_covers word))

record GoesOver (version : ℕ) (touched : List WordValue) (entries : List CacheEntry)
    (entry : CacheEntry) : Type 0 where
  before : entry.version + 1 ≡ version
  apart : cache_word_meets_touched touched entry.word ≡ false
  alone : list_any (same_cache_key (cache_entry_under version entry)) entries ≡ false

over_parts : (before met there : Bool) → (before && not met && not there) ≡ true
    → (before ≡ true) × (met ≡ false) × (there ≡ false)
over_parts before met there is = search rules

over_from : (before met there : Bool) → before ≡ true → met ≡ false → there ≡ false
    → (before && not met && not there) ≡ true
over_from before met there b m t = search rules

gone_over : (version : ℕ) (touched : List WordValue) (entries : List CacheEntry)
    (entry : CacheEntry) → is_cache_entry_carried version touched entries entry ≡ true
    → GoesOver version touched entries entry
gone_over version touched entries entry is = search (rules, over_parts, eqb-true)

in_list : (test : CacheEntry → Bool) (entries : List CacheEntry) (entry : CacheEntry)
    → Contains entries entry → test entry ≡ true → list_any test entries ≡ true
in_list test entries entry h3 passes = search (rules, list_any-from_Any)

none_in : (test : CacheEntry → Bool) (entries : List CacheEntry) (entry : CacheEntry)
    → Contains entries entry → list_any test entries ≡ false → test entry ≡ false
none_in test entries entry there none = search (rules, false_from_ne_true, in_list)

-- ---- no two entries of one key

-- two entries of the cache, of different keys
abbrev IsPair : List CacheEntry → CacheEntry → CacheEntry → Type 0
IsPair entries a b = Contains entries a × (Contains entries b × (same_cache_key a b ≡ false))

pairs_within : (entries : List CacheEntry) → HaveDistinctCacheKeys entries
    → AllPairs (IsPair entries) entries
pairs_within entries distinct = λ i j d less within. (
  (
    i,
    omega (arith, less, within),
    get_or_default entries i (get_or entries i d) d (omega (arith, less, within)),
  ),
  ((j, within, get_or_default entries j (get_or entries j d) d within), distinct i j d less within),
)

-- entries of the version before that have one word under the version are of one key
both_over : (version : ℕ) (a b : CacheEntry) → a.version + 1 ≡ version → b.version + 1 ≡ version
    → same_cache_key a b ≡ false → same_cache_key (cache_entry_under version a) (cache_entry_under version b) ≡ false
both_over version a b before_a before_b apart =
    search (rules, false_from_ne_true, same_key_from, same_key_parts)

pair_carried : (version : ℕ) (touched : List WordValue) (entries : List CacheEntry)
    (a b : CacheEntry) → IsPair entries a b → IfSome (carried_cache_entry version touched entries a)
    (λ y. IfSome (carried_cache_entry version touched entries b) (λ z. same_cache_key y z ≡ false))
pair_carried version touched entries a b (in_a, (in_b, apart)) =
    by_case (leb version a.version) (is_cache_entry_carried version touched entries a)
    (leb version b.version) (is_cache_entry_carried version touched entries b) refl refl
  where
    over : CacheEntry → CacheEntry
    over entry = cache_entry_under version entry

    left : Bool → Bool → CacheEntry → Option CacheEntry
    left stays goes entry = cond stays (Some entry) (cond goes (Some (over entry)) None)

    by_case : (stays_a goes_a stays_b goes_b : Bool) → is_cache_entry_carried version touched entries a ≡ goes_a
        → is_cache_entry_carried version touched entries b ≡ goes_b → IfSome (left stays_a goes_a a)
        (λ y. IfSome (left stays_b goes_b b) (λ z. same_cache_key y z ≡ false))
    by_case true _ true _ _ _ = apart
    by_case true _ false true _ is = apart-sym (over b) a
        (none_in (same_cache_key (over b)) entries a in_a (gone_over version touched entries b is).alone)
    by_case true _ false false _ _ = tt
    by_case false true true _ is _ =
        none_in (same_cache_key (over a)) entries b in_b (gone_over version touched entries a is).alone
    by_case false true false true is_a is_b = both_over version a b
        (gone_over version touched entries a is_a).before
        (gone_over version touched entries b is_b).before apart
    by_case false true false false _ _ = tt
    by_case false false _ _ _ _ = tt

pub carried_distinct : (version : ℕ) (touched : List WordValue) (entries : List CacheEntry)
    → HaveDistinctCacheKeys entries
    → HaveDistinctCacheKeys (filter_map (carried_cache_entry version touched entries) entries)
carried_distinct version touched entries distinct = AllPairs-filter_map (IsPair entries)
    (λ a b. same_cache_key a b ≡ false) (carried_cache_entry version touched entries)
    (pair_carried version touched entries) entries (pairs_within entries distinct)

-- there are no more of them
pub left_few : (version capacity : ℕ) (touched : List WordValue) (entries : List CacheEntry)
    → length entries ≤ capacity
    → length (filter_map (carried_cache_entry version touched entries) entries) ≤ capacity
left_few version capacity touched entries few = omega (arith, length-filter_map)

pub cache_carried : (version : ℕ) (touched : List WordValue) (cache : CacheValue) → IsCache cache
    → IsCache (cache_after_carry version touched cache)
cache_carried version touched cache is = search (rules, carried_distinct, left_few)

-- ---- what isn't touched stays

pub untouched_stays : (version : ℕ) (touched : List WordValue) (cache : CacheValue)
    (entry : CacheEntry) → Contains cache.entries entry → entry.version + 1 ≡ version
    → cache_word_meets_touched touched entry.word ≡ false
    → Any (λ (kept : CacheEntry). (kept.version ≡ version) × (kept.word ≡ entry.word))
    (cache_after_carry version touched cache).entries
untouched_stays version touched cache entry there before apart =
    by_case (list_any (same_cache_key (cache_entry_under version entry)) entries) refl
  where
    entries : List CacheEntry
    entries = cache.entries

    carried : List CacheEntry
    carried = filter_map (carried_cache_entry version touched entries) entries

    IsIt : CacheEntry → Type 0
    IsIt kept = (kept.version ≡ version) × (kept.word ≡ entry.word)

    found : (kept : CacheEntry) → Contains carried kept → IsIt kept → Any IsIt carried
    found kept (k, within, is) same = (k, kept, within, is, same)

    below : leb version entry.version ≡ false
    below = false_from_ne_true (leb version entry.version) (λ le.
        absurd (omega (arith, leb-true version entry.version le, before)))

    by_case : (twin : Bool) → list_any (same_cache_key (cache_entry_under version entry)) entries ≡ twin
        → Any IsIt carried
    by_case false alone =
        let goes = over_from (eqb (entry.version + 1) version) (cache_word_meets_touched touched entry.word)
        (list_any (same_cache_key (cache_entry_under version entry)) entries) (eq-eqb _ _ before) apart alone in
        let left = ap (λ b. cond b (Some entry)
        (cond (is_cache_entry_carried version touched entries entry) (Some (cache_entry_under version entry)) None)) below
        ∙ ap (λ b. cond b (Some (cache_entry_under version entry)) None) goes in
        found (cache_entry_under version entry)
        (Contains-filter_map (carried_cache_entry version touched entries) entries entry (cache_entry_under version entry)
        there left) (refl, refl)
    by_case true twins =
        let any = Any-from_list_any (same_cache_key (cache_entry_under version entry)) entries twins in
        let twin = any.1 in
        let keys = same_key_parts (cache_entry_under version entry) twin any.4 in
        let versions : version ≡ twin.version = keys.0 in
        let stays : leb version twin.version ≡ true = le-leb version twin.version (omega arith) in
        let left = ap (λ b. cond b (Some twin)
        (cond (is_cache_entry_carried version touched entries twin) (Some (cache_entry_under version twin)) None)) stays in
        found twin
        (Contains-filter_map (carried_cache_entry version touched entries) entries twin twin
        (any.0, any.2, any.3) left) (sym versions, sym keys.1)

-- ---- what is there was there, or went over

pub only_carried : (version : ℕ) (touched : List WordValue) (cache : CacheValue)
    → All (λ (entry : CacheEntry). ((version ≤ entry.version) × Contains cache.entries entry)
    ⊎ WasCacheEntryCarried version touched cache entry) (cache_after_carry version touched cache).entries
only_carried version touched cache =
    All-filter_map Is (carried_cache_entry version touched entries) entries
    (All-weaker (Contains entries) (λ entry. IfSome (carried_cache_entry version touched entries entry) Is)
    each entries (All-contains_itself entries))
  where
    entries : List CacheEntry
    entries = cache.entries

    Is : CacheEntry → Type 0
    Is entry = ((version ≤ entry.version) × Contains entries entry)
        ⊎ WasCacheEntryCarried version touched cache entry

    by_case : (entry : CacheEntry) (stays goes : Bool) → Contains entries entry
        → leb version entry.version ≡ stays → is_cache_entry_carried version touched entries entry ≡ goes
        → IfSome (cond stays (Some entry) (cond goes (Some (cache_entry_under version entry)) None)) Is
    by_case entry true _ there le _ = inl (leb-true version entry.version le, there)
    by_case entry false true there _ is = let goes = gone_over version touched entries entry is in
        inr (record {
          old = entry;
          there = there;
          before = goes.before;
          apart = goes.apart;
          is = refl;
        })
    by_case entry false false there _ _ = tt

    each : (entry : CacheEntry) → Contains entries entry
        → IfSome (carried_cache_entry version touched entries entry) Is
    each entry there = by_case entry (leb version entry.version)
        (is_cache_entry_carried version touched entries entry) there refl refl

-- ---- where all is touched

none_over : (version : ℕ) (entries : List CacheEntry) (entry : CacheEntry)
    → is_cache_entry_carried version cache_all_touched entries entry ≡ false
none_over version entries entry = search (rules, false_from_ne_true, gone_over, meets_all)

all_left : (version : ℕ) (entries rest : List CacheEntry)
    → filter_map (carried_cache_entry version cache_all_touched entries) rest
    ≡ filter (λ (entry : CacheEntry). leb version entry.version) rest
all_left version entries [] = refl
all_left version entries (entry ∷ rest) = search (rules, none_over, all_left version entries rest)

pub all_carried : (version : ℕ) (cache : CacheValue)
    → cache_after_carry version cache_all_touched cache ≡ cache_after_raise version cache
all_carried version cache = cc (all_left version cache.entries cache.entries)

-- ---- what is left, entry by entry

-- an entry of which nothing is left ..
pub left_out : (f : CacheEntry → Option CacheEntry) (before : List CacheEntry) (entry : CacheEntry)
    → f entry ≡ None → filter_map f before ≡ filter_map f (before ++ entry ∷ [])
left_out f before entry none = search (rules, filter_map-append)

-- .. or something, which a cache of what is left of those before it accepts
pub left_in : (f : CacheEntry → Option CacheEntry) (before : List CacheEntry)
    (entry left : CacheEntry) (rest : List CacheEntry) (capacity : ℕ) → f entry ≡ Some left
    → IsCache (record { entries = filter_map f (before ++ entry ∷ rest); capacity = capacity })
    → cache_after_accept 0 left (record { entries = filter_map f before; capacity = capacity })
    ≡ record { entries = filter_map f (before ++ entry ∷ []); capacity = capacity }
left_in f before entry left rest capacity some is =
    let old = filter_map f before in
    let with_it = old ++ left ∷ [] in
    let all : (later : List CacheEntry)
    → filter_map f (before ++ entry ∷ later) ≡ old ++ left ∷ filter_map f later =
    λ later. filter_map-append f before (entry ∷ later)
    ∙ ap (λ o. old ++ cons_option o (filter_map f later)) some in
    let late = le-ltb left.version 0 (omega arith) in
    let absent = none_before old left (filter_map f rest)
    (subst HaveDistinctCacheKeys (all rest) is.distinct) in
    let fits = le-ltb capacity (length with_it) (omega (
      arith,
      is.few,
      ap length (all rest),
      length-append old (left ∷ filter_map f rest),
      length-append old (left ∷ []),
    )) in
    (λ i. cond (late i || absent i) (record { entries = old; capacity = capacity })
    (record { entries = cond (fits i) (drop 1 with_it) with_it; capacity = capacity }))
    ∙ (λ i. record { entries = sym (all []) i; capacity = capacity })
