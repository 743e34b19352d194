-- Cache entries as pairs, whose keys add a shift to versions: what a push, a removal and a filter
-- make of them, and that no two have one key.
use Rattle.std.proofs.Common.{[], ◌++◌, ◌+◌, ◌-◌, ◌<◌, ◌^◌, ◌||◌, ◌∙◌, ◌∷◌, ◌≡◌, ◌≤◌, All, Bool, List, Option, ap, arith, cond, drop, eq-eqb, eqb, eqb-true, false, filter, get_or, le-leb, leb, leb-true, length, length-append, refl, remove, subst, suc, sym, true, zero, ℕ, rules}
use Rattle.base.proofs.Exports.{All-cons, All-filter, All-head, All-push, All-remove, All-tail, All-weaker, AllByRecursion, AllPairs-cons, IsDistinct, all_pairs_push, and_from, count_by-le-length, false_from_ne_true, get_or-append_seam, keys_of, length-filter, list_any, list_any-from_Any, map-append, map-remove}
use Rattle.ternary.specs.Exports.{WordValue}
use Rattle.switch_table.specs.Exports.{CacheEntriesAreMasked, AreCacheEntriesUpTo, HasCacheMaskOf, HaveDistinctCacheKeys, HaveOwnCacheKeys, CacheKeysHaveVersions, CacheHoldsEntries, KeyedCacheEntry, equal_cache_keys, cache_has_key, kept_cache_entries, kept_cache_entry, cache_key_of, keyed_cache_entry_of, same_cache_key}
use Rattle.switch_table.specs.declared.cache.CacheEntry.{CacheEntry}

-- ---- keys of entries

pub same_key_parts : (a b : CacheEntry) → same_cache_key a b ≡ true
    → (a.version ≡ b.version) × (a.word ≡ b.word)
unfolding same_cache_key
same_key_parts a b is = search (rules, eqb-true)

pub same_key_from : (a b : CacheEntry) → a.version ≡ b.version → a.word ≡ b.word
    → same_cache_key a b ≡ true
unfolding same_cache_key
same_key_from a b versions words = search (rules, and_from, eq-eqb)

pub eqb-shift : (a b shift : ℕ) → eqb a b ≡ eqb (a + shift) (b + shift)
eqb-shift a b shift = search (rules, eq-eqb, eqb-true, false_from_ne_true)

-- two entries of different keys, in either order
pub apart-sym : (a b : CacheEntry) → same_cache_key a b ≡ false → same_cache_key b a ≡ false
apart-sym a b apart = search (rules, false_from_ne_true, same_key_parts, same_key_from)

pub none_at : (test : CacheEntry → Bool) (entries : List CacheEntry) (k : ℕ) (d : CacheEntry)
    → list_any test entries ≡ false → k < length entries → test (get_or entries k d) ≡ false
none_at test entries k d none within = search (rules, false_from_ne_true, list_any-from_Any)

pub none_distinct : HaveDistinctCacheKeys []
none_distinct = λ i j d less within. absurd (omega arith)

pub rest_distinct : (entries : List CacheEntry) → HaveDistinctCacheKeys entries →
    HaveDistinctCacheKeys (drop 1 entries)
rest_distinct [] pairs = none_distinct
rest_distinct (x ∷ xs) pairs = λ i j d less within. pairs (suc i) (suc j) d (omega arith)
    (omega arith)

pub push_distinct : (entries : List CacheEntry) (entry : CacheEntry) → HaveDistinctCacheKeys entries →
    list_any (same_cache_key entry) entries ≡ false → HaveDistinctCacheKeys (entries ++ entry ∷ [])
push_distinct entries entry distinct absent = all_pairs_push (λ a b. same_cache_key a b ≡ false) entries
    entry distinct (λ k d within. apart-sym entry (get_or entries k d)
    (none_at (same_cache_key entry) entries k d absent within))

-- ---- entries of pairs

-- the number of the pair's key is a version and the shift
abbrev pub HasVersion : ℕ → KeyedCacheEntry → Type 0
HasVersion shift pair = (shift ≤ pair.0.number) × (pair.0.number < shift + 2 ^ 32)

pub entry_of_pair : (shift : ℕ) (entry : CacheEntry) → kept_cache_entry shift (keyed_cache_entry_of shift entry) ≡ entry
entry_of_pair shift entry = search rules

pub key_of_entry : (shift : ℕ) (pair : KeyedCacheEntry) → HasVersion shift pair
    → cache_key_of shift (kept_cache_entry shift pair) ≡ pair.0
key_of_entry shift pair is = search rules

pub same_key-is : (shift : ℕ) (a b : CacheEntry)
    → same_cache_key a b ≡ equal_cache_keys (cache_key_of shift a) (cache_key_of shift b)
unfolding same_cache_key equal_cache_keys
same_key-is shift a b = cc (eqb-shift a.version b.version shift)

-- an entry's key is that of the pair
same_key_of : (shift : ℕ) (entry : CacheEntry) (pair : KeyedCacheEntry) → HasVersion shift pair
    → equal_cache_keys (cache_key_of shift entry) pair.0 ≡ same_cache_key entry (kept_cache_entry shift pair)
same_key_of shift entry pair is = sym (same_key-is shift entry (kept_cache_entry shift pair)
    ∙ ap (equal_cache_keys (cache_key_of shift entry)) (key_of_entry shift pair is))

pub has_key_of_entry : (shift : ℕ) (entry : CacheEntry) (pairs : List KeyedCacheEntry)
    → CacheKeysHaveVersions shift pairs
    → cache_has_key (cache_key_of shift entry) pairs ≡ list_any (same_cache_key entry) (kept_cache_entries shift pairs)
has_key_of_entry shift entry [] are = refl
has_key_of_entry shift entry (pair ∷ pairs) are =
    let rest = has_key_of_entry shift entry pairs (All-tail (HasVersion shift) pair pairs are) in
    λ i. (same_key_of shift entry pair (All-head (HasVersion shift) pair pairs are)) i || rest i

apart_from_all : (shift : ℕ) (pair : KeyedCacheEntry) (pairs : List KeyedCacheEntry) → HasVersion shift pair
    → CacheKeysHaveVersions shift pairs
    → AllByRecursion (λ key. equal_cache_keys pair.0 key ≡ false) (keys_of pairs)
    → All (λ entry. same_cache_key (kept_cache_entry shift pair) entry ≡ false) (kept_cache_entries shift pairs)
apart_from_all shift pair [] is are apart = search rules
apart_from_all shift pair (next ∷ pairs) is are apart =
    let here : same_cache_key (kept_cache_entry shift pair) (kept_cache_entry shift next) ≡ false =
    sym (same_key_of shift (kept_cache_entry shift pair) next (All-head (HasVersion shift) next pairs are))
    ∙ ap (λ key. equal_cache_keys key next.0) (key_of_entry shift pair is) ∙ apart.0 in
    All-cons (λ entry. same_cache_key (kept_cache_entry shift pair) entry ≡ false) (kept_cache_entry shift next)
    (kept_cache_entries shift pairs) here
    (apart_from_all shift pair pairs is (All-tail (HasVersion shift) next pairs are) apart.1)

-- no two entries have one key where no two pairs do
pub entries_distinct : (shift : ℕ) (pairs : List KeyedCacheEntry) → CacheKeysHaveVersions shift pairs
    → HaveOwnCacheKeys pairs → HaveDistinctCacheKeys (kept_cache_entries shift pairs)
unfolding IsDistinct
entries_distinct shift [] are own = none_distinct
entries_distinct shift (pair ∷ pairs) are own =
    let rest = All-tail (HasVersion shift) pair pairs are in
    AllPairs-cons (λ a b. same_cache_key a b ≡ false) (kept_cache_entry shift pair) (kept_cache_entries shift pairs)
    (apart_from_all shift pair pairs (All-head (HasVersion shift) pair pairs are) rest own.0)
    (entries_distinct shift pairs rest own.1)

pub entries_pushed : (shift : ℕ) (entry : CacheEntry) (pairs new : List KeyedCacheEntry)
    → new ≡ pairs ++ keyed_cache_entry_of shift entry ∷ []
    → kept_cache_entries shift new ≡ kept_cache_entries shift pairs ++ entry ∷ []
entries_pushed shift entry pairs new made =
    ap (kept_cache_entries shift) made ∙ map-append (kept_cache_entry shift) pairs (keyed_cache_entry_of shift entry ∷ [])
    ∙ ap (λ e. kept_cache_entries shift pairs ++ e ∷ []) (entry_of_pair shift entry)

pub entries_removed : (shift : ℕ) (pairs : List KeyedCacheEntry) (place : ℕ)
    → kept_cache_entries shift (remove pairs place) ≡ remove (kept_cache_entries shift pairs) place
entries_removed shift pairs place = map-remove (kept_cache_entry shift) pairs place

-- a test of pairs that is one of their entries
pub entries_filtered : (shift : ℕ) (test : KeyedCacheEntry → Bool) (kept : CacheEntry → Bool)
    → ((pair : KeyedCacheEntry) → HasVersion shift pair → test pair ≡ kept (kept_cache_entry shift pair))
    → (pairs : List KeyedCacheEntry) → CacheKeysHaveVersions shift pairs
    → kept_cache_entries shift (filter test pairs) ≡ filter kept (kept_cache_entries shift pairs)
entries_filtered shift test kept same [] are = refl
entries_filtered shift test kept same (pair ∷ pairs) are =
    let here = same pair (All-head (HasVersion shift) pair pairs are) in
    by_case (test pair) _
    (entries_filtered shift test kept same pairs (All-tail (HasVersion shift) pair pairs are))
    ∙ ap (λ b. cond b (kept_cache_entry shift pair ∷ filter kept (kept_cache_entries shift pairs))
    (filter kept (kept_cache_entries shift pairs))) here
  where
    by_case : (stays : Bool) (left : List CacheEntry) → kept_cache_entries shift (filter test pairs) ≡ left
        → kept_cache_entries shift (cond stays (pair ∷ filter test pairs) (filter test pairs))
        ≡ cond stays (kept_cache_entry shift pair ∷ left) left
    by_case true left rest = ap (λ es. kept_cache_entry shift pair ∷ es) rest
    by_case false left rest = rest

leb-shift : (shift version number : ℕ) → shift ≤ number
    → leb (version + shift) number ≡ leb version (number - shift)
leb-shift shift version number fits = search (rules, le-leb, leb-true, false_from_ne_true)

pub entries_from : (shift version : ℕ) (pairs : List KeyedCacheEntry) → CacheKeysHaveVersions shift pairs
    → kept_cache_entries shift (filter (λ (pair : KeyedCacheEntry). leb (version + shift) pair.0.number) pairs)
    ≡ filter (λ (entry : CacheEntry). leb version entry.version) (kept_cache_entries shift pairs)
entries_from shift version pairs are = search (rules, entries_filtered, leb-shift)

-- no entry before another one has its key
pub none_before : (before : List CacheEntry) (entry : CacheEntry) (rest : List CacheEntry) →
    HaveDistinctCacheKeys (before ++ entry ∷ rest) → list_any (same_cache_key entry) before ≡ false
none_before [] entry rest distinct = refl
none_before (x ∷ before) entry rest distinct =
    let len = length-append (x ∷ before) (entry ∷ rest) in
    let at = get_or-append_seam (x ∷ before) entry rest entry in
    let apart : same_cache_key x entry ≡ false = subst (λ e. same_cache_key x e ≡ false) at
    (distinct 0 (length (x ∷ before)) entry (omega arith) (omega (arith, len))) in
    ap (λ b. b || list_any (same_cache_key entry) before) (apart-sym x entry apart)
    ∙ (none_before before entry rest (rest_distinct (x ∷ before ++ entry ∷ rest) distinct))

-- ---- what a cache keeps

pub holds_of : (masks : Option (List WordValue)) (shift newest capacity : ℕ) (pairs : List KeyedCacheEntry)
    (entries : List CacheEntry) → shift ≤ 2 ^ 32 → 2 ^ 32 ≤ shift + newest
    → CacheKeysHaveVersions shift pairs → kept_cache_entries shift pairs ≡ entries → AreCacheEntriesUpTo newest entries
    → CacheEntriesAreMasked masks entries → length entries ≤ capacity
    → CacheHoldsEntries masks shift newest capacity pairs
holds_of masks shift newest capacity pairs entries fits falls versions are up_to masked few =
    search rules

-- one more comes, of a version up to the newest one
pub holds_pushed : (masks after : Option (List WordValue)) (shift newest later capacity : ℕ)
    (pairs new : List KeyedCacheEntry) (entry : CacheEntry) → CacheHoldsEntries masks shift newest capacity pairs
    → new ≡ pairs ++ keyed_cache_entry_of shift entry ∷ [] → newest ≤ later → entry.version ≤ later
    → later < 2 ^ 32 → ((one : WordValue) → HasCacheMaskOf masks one → HasCacheMaskOf after one)
    → HasCacheMaskOf after entry.word → CacheHoldsEntries after shift later (capacity + 1) new
holds_pushed masks after shift newest later capacity pairs new entry is made newer up_to small kept added =
    let entries = kept_cache_entries shift pairs in
    let IsUpTo = λ (e : CacheEntry). e.version ≤ later in
    let IsMasked = λ (e : CacheEntry). HasCacheMaskOf after e.word in
    holds_of after shift later (capacity + 1) new (entries ++ entry ∷ []) is.fits
    (omega (arith, is.falls, newer))
    (subst (CacheKeysHaveVersions shift) (sym made) (All-push (HasVersion shift) pairs (keyed_cache_entry_of shift entry)
    is.versions (omega arith, omega (arith, up_to, small))))
    (entries_pushed shift entry pairs new made)
    (All-push IsUpTo entries entry (All-weaker (λ (e : CacheEntry). e.version ≤ newest) IsUpTo
    (λ e le. omega (arith, le, newer)) entries is.up_to) up_to)
    (All-push IsMasked entries entry (All-weaker (λ (e : CacheEntry). HasCacheMaskOf masks e.word)
    IsMasked (λ e. kept e.word) entries is.masked) added)
    (omega (arith, length-append entries (entry ∷ []), is.few))

pub few_removed : (entries : List CacheEntry) (place : ℕ)
    → length (remove entries place) ≤ length entries
few_removed [] zero = omega arith
few_removed [] (suc place) = omega arith
few_removed (x ∷ xs) zero = omega arith
few_removed (x ∷ xs) (suc place) = omega (arith, few_removed xs place)

pub first_removed : (entries : List CacheEntry) → remove entries 0 ≡ drop 1 entries
first_removed entries = search rules

pub holds_removed : (masks : Option (List WordValue)) (shift newest capacity most place : ℕ)
    (pairs new : List KeyedCacheEntry) → CacheHoldsEntries masks shift newest most pairs
    → new ≡ remove pairs place → length (remove (kept_cache_entries shift pairs) place) ≤ capacity
    → CacheHoldsEntries masks shift newest capacity new
holds_removed masks shift newest capacity most place pairs new is made few =
    let entries = kept_cache_entries shift pairs in
    holds_of masks shift newest capacity new (remove entries place) is.fits is.falls
    (subst (CacheKeysHaveVersions shift) (sym made) (All-remove (HasVersion shift) pairs place is.versions))
    (ap (kept_cache_entries shift) made ∙ entries_removed shift pairs place)
    (All-remove (λ (entry : CacheEntry). entry.version ≤ newest) entries place is.up_to)
    (All-remove (λ (entry : CacheEntry). HasCacheMaskOf masks entry.word) entries place is.masked) few

pub holds_from : (masks : Option (List WordValue)) (shift newest capacity version : ℕ)
    (pairs new : List KeyedCacheEntry) → CacheHoldsEntries masks shift newest capacity pairs
    → new ≡ filter (λ (pair : KeyedCacheEntry). leb (version + shift) pair.0.number) pairs
    → CacheHoldsEntries masks shift newest capacity new
holds_from masks shift newest capacity version pairs new is made =
    let entries = kept_cache_entries shift pairs in
    let kept = λ (entry : CacheEntry). leb version entry.version in
    let test = λ (pair : KeyedCacheEntry). leb (version + shift) pair.0.number in
    holds_of masks shift newest capacity new (filter kept entries) is.fits is.falls
    (subst (CacheKeysHaveVersions shift) (sym made) (All-filter test (HasVersion shift) pairs is.versions))
    (ap (kept_cache_entries shift) made ∙ entries_from shift version pairs is.versions)
    (All-filter kept (λ (entry : CacheEntry). entry.version ≤ newest) entries is.up_to)
    (All-filter kept (λ (entry : CacheEntry). HasCacheMaskOf masks entry.word) entries is.masked)
    (omega (arith, length-filter kept entries, count_by-le-length kept entries, is.few))
