-- Live slots among dead ones: their counts and keys, and what a push, a new key and a sweep leave.
use Rattle.std.proofs.Common.{[], ◌++◌, ◌<◌, ◌^◌, ◌∙◌, ◌∷◌, ◌≡◌, ◌≤◌, Bool, IfSome, List, None, Option, Some, ap, arith, cond, eqb-true, false, filter, get_or, length, length-append, length-take-le, not, option_map, position, refl, replicate, set, slice_get, subst, suc, swap_remove, sym, take, true, zero, ℕ, rules}
use Rattle.base.proofs.Exports.{AllByRecursion, IsDistinct, cons_option, count_by-le-length, filter_map-append, get_or-map, get_or_append_left, get_or_from_slice_get, keys_of, length-filter, length-map, length_push, lookup, map_push, none-some, position_or_len, put_last, same_Some, slice_get-get_or, slice_get-map, slice_get_within, take-append-le, take-map, values_of}
use Rattle.indexmap.proofs.MapLemmas.{Found-position}
use Rattle.ternary.specs.Exports.{WordValue, word_eq}
use Rattle.switch_table.specs.Exports.{AreCacheLiveCounts, AreCacheSlotsNamed, AreCacheSlots, CountLiveCachePlaces, HaveOwnCacheKeys, KeyedCacheEntry, SlotPair, cache_live_count_set, equal_cache_keys, cache_live_flags_of, cache_has_key, is_live_cache_slot, live_cache_pair, live_cache_pairs}
use Rattle.switch_table.specs.declared.key.CacheKey.{CacheKey}
use Rattle.switch_table.specs.declared.key.LearntEntry.{LearntEntry}
use Rattle.switch_table.specs.declared.key.Slot.{Slot}
use Rattle.switch_table.specs.declared.live.LiveCacheCounts.{LiveCacheCounts}
use Rattle.switch_table.proofs.CacheSlotKeys.{named_pushed}

-- ---- keys

words_same : (a b : WordValue) → word_eq a b ≡ true → a ≡ b
words_same a b is = search (rules, eqb-true)

pub equal_keys_same : (a b : CacheKey) → equal_cache_keys a b ≡ true → a ≡ b
unfolding equal_cache_keys
equal_keys_same a b is = search (rules, words_same, eqb-true)

-- ---- counts and keys of live slots

-- the pairs of a slot that is live or not, and of those behind it
abbrev with_slot : Bool → SlotPair → List KeyedCacheEntry → List KeyedCacheEntry
with_slot live slot pairs = cons_option (cond live (Some (slot.0, slot.1.learnt)) None) pairs

pub count_live : (slots : List SlotPair) → cache_live_count_set (cache_live_flags_of slots) ≡ length (live_cache_pairs slots)
count_live slots = sym (length-filter (λ flag. flag) (cache_live_flags_of slots)) ∙ set_flags slots where
  set_flags : (some : List SlotPair) →
      length (filter (λ flag. flag) (cache_live_flags_of some)) ≡ length (live_cache_pairs some)
  set_flags [] = refl
  set_flags (slot ∷ some) = by_case slot.1.is_live (set_flags some) where
    by_case : (live : Bool) → length (filter (λ flag. flag) (cache_live_flags_of some))
        ≡ length (live_cache_pairs some) → length (cond live
        (live ∷ filter (λ flag. flag) (cache_live_flags_of some)) (filter (λ flag. flag) (cache_live_flags_of some)))
        ≡ length (with_slot live slot (live_cache_pairs some))
    by_case true rest = omega (arith, rest)
    by_case false rest = rest

pub live_fit : (slots : List SlotPair) → length (live_cache_pairs slots) ≤ length slots
live_fit slots = omega (arith, count_live slots, count_by-le-length, length-map slots is_live_cache_slot)

abbrev AreApart : CacheKey → List CacheKey → Type 0
AreApart key keys = AllByRecursion (λ other. equal_cache_keys key other ≡ false) keys

apart_live : (key : CacheKey) (slots : List SlotPair) → AreApart key (keys_of slots) →
    AreApart key (keys_of (live_cache_pairs slots))
apart_live key [] apart = apart
apart_live key (slot ∷ slots) apart = search (rules, apart_live key slots apart.1)

pub distinct_live : (slots : List SlotPair) → IsDistinct equal_cache_keys (keys_of slots) →
    HaveOwnCacheKeys (live_cache_pairs slots)
unfolding IsDistinct
distinct_live [] distinct = distinct
distinct_live (slot ∷ slots) distinct = by_case slot.1.is_live (distinct_live slots distinct.1)
  where
    by_case : (live : Bool) → IsDistinct equal_cache_keys (keys_of (live_cache_pairs slots)) →
        IsDistinct equal_cache_keys (keys_of (with_slot live slot (live_cache_pairs slots)))
    by_case true rest = (apart_live slot.0 slots distinct.0, rest)
    by_case false rest = rest

-- ---- the slot of a key

pub absent_live : (key : CacheKey) (slots : List SlotPair) →
    lookup (equal_cache_keys key) slots ≡ None → cache_has_key key (live_cache_pairs slots) ≡ false
absent_live key [] none = refl
absent_live key (slot ∷ slots) none = search (rules, none-some, absent_live key slots)

apart_absent : (key : CacheKey) (slots : List SlotPair) → AreApart key (keys_of slots) →
    lookup (equal_cache_keys key) slots ≡ None
apart_absent key [] apart = refl
apart_absent key (slot ∷ slots) apart = cc (apart.0, apart_absent key slots apart.1)

pub found_live : (key : CacheKey) (slots : List SlotPair) (found : Slot) →
    IsDistinct equal_cache_keys (keys_of slots) → lookup (equal_cache_keys key) slots ≡ Some found →
    cache_has_key key (live_cache_pairs slots) ≡ found.is_live
unfolding IsDistinct
found_live key [] found distinct is = absurd (none-some found is)
found_live key (slot ∷ slots) found distinct is = by_case (equal_cache_keys key slot.0) slot.1.is_live
    refl refl is (found_live key slots found distinct.1)
  where
    here_is : equal_cache_keys key slot.0 ≡ true → lookup (equal_cache_keys key) slots ≡ None
    here_is same = apart_absent key slots (rw (equal_keys_same key slot.0 same) distinct.0)

    by_case : (here live : Bool) → equal_cache_keys key slot.0 ≡ here → slot.1.is_live ≡ live
        → cond here (Some slot.1) (lookup (equal_cache_keys key) slots) ≡ Some found
        → (lookup (equal_cache_keys key) slots ≡ Some found → cache_has_key key (live_cache_pairs slots)
        ≡ found.is_live) → cache_has_key key (with_slot live slot (live_cache_pairs slots)) ≡ found.is_live
    by_case true true same lives here rest = cc (same, lives, same_Some slot.1 found here)
    by_case true false same lives here rest = absent_live key slots (here_is same) ∙ sym lives
        ∙ ap (λ (s : Slot). s.is_live) (same_Some slot.1 found here)
    by_case false true apart lives later rest = cc (apart, rest later)
    by_case false false apart lives later rest = rest later

-- the slot at this place is the one that has the key
pub record IsFound (key : CacheKey) (place : ℕ) (slots : List SlotPair) : Type 0 where
  pub pair : SlotPair
  pub at : slice_get slots place ≡ Some pair
  pub passes : equal_cache_keys key pair.0 ≡ true
  pub value : lookup (equal_cache_keys key) slots ≡ Some pair.1

first_found : (key : CacheKey) (slots : List SlotPair) →
    position_or_len (equal_cache_keys key) (keys_of slots) < length slots →
    IsFound key (position_or_len (equal_cache_keys key) (keys_of slots)) slots
first_found key [] within = absurd (omega arith)
first_found key (slot ∷ slots) within = search (rules, first_found key slots)

pub found_at : (key : CacheKey) (place : ℕ) (slots : List SlotPair) →
    position (equal_cache_keys key) (keys_of slots) ≡ Some place → IsFound key place slots
found_at key place slots is = let found = Found-position (equal_cache_keys key) slots place is in
    subst (λ n. IsFound key n slots) found.or_len
    (first_found key slots (omega (arith, found.or_len, found.within)))

-- a slot of a key that no live one has is dead
pub found_dead : (key : CacheKey) (place : ℕ) (slots : List SlotPair) →
    IsFound key place slots → IsDistinct equal_cache_keys (keys_of slots) →
    cache_has_key key (live_cache_pairs slots) ≡ false → slice_get (cache_live_flags_of slots) place ≡ Some false
found_dead key place slots found distinct absent = search (rules, slice_get-map, found_live)

-- ---- another key for a dead slot

pub rekeyed_pairs : (slots : List SlotPair) (place : ℕ) (pair : SlotPair) (key : CacheKey) →
    slice_get slots place ≡ Some pair → pair.1.is_live ≡ false →
    live_cache_pairs (set slots place (key, pair.1)) ≡ live_cache_pairs slots
rekeyed_pairs [] place pair key at dead = refl
rekeyed_pairs (slot ∷ slots) zero pair key at dead = cc (dead, same_Some slot pair at)
rekeyed_pairs (slot ∷ slots) (suc place) pair key at dead =
    ap (cons_option (live_cache_pair slot)) (rekeyed_pairs slots place pair key at dead)

pub rekeyed_flags : (slots : List SlotPair) (place : ℕ) (pair : SlotPair) (key : CacheKey)
    → slice_get slots place ≡ Some pair → cache_live_flags_of (set slots place (key, pair.1)) ≡ cache_live_flags_of slots
rekeyed_flags [] place pair key at = refl
rekeyed_flags (slot ∷ slots) zero pair key at = cc (same_Some slot pair at)
rekeyed_flags (slot ∷ slots) (suc place) pair key at = cc (rekeyed_flags slots place pair key at)

-- the dead slot at this place has another key
pub record IsRekeyed (place : ℕ) (key : CacheKey) (taken : Option SlotPair)
    (slots new : List SlotPair) : Type 0 where
  pub pair : SlotPair
  pub at : slice_get slots place ≡ Some pair
  pub dead : pair.1.is_live ≡ false
  pub taken_is : taken ≡ Some pair
  pub new_is : new ≡ set slots place (key, pair.1)

pub rekeyed : (place : ℕ) (key : CacheKey) (slot : Slot) (taken : Option SlotPair)
    (slots more new : List SlotPair) → slice_get (cache_live_flags_of slots) place ≡ Some false
    → slice_get (values_of slots) place ≡ Some slot
    → more ≡ slots ++ (key, slot) ∷ [] → taken ≡ slice_get more place
    → IfSome taken (λ pair. new ≡ swap_remove more place pair) → IsRekeyed place key taken slots new
rekeyed place key slot taken slots more new dead slot_is more_is taken_is new_is =
    by_case (slice_get slots place) refl
  where
    by_case : (here : Option SlotPair) → slice_get slots place ≡ here →
        IsRekeyed place key taken slots new
    by_case None at = absurd (none-some false
        (sym (slice_get-map is_live_cache_slot slots place ∙ ap (option_map is_live_cache_slot) at) ∙ dead))
    by_case (Some pair) at =
        let within = slice_get_within slots place pair at in
        let last = (key, slot) ∷ [] in
        let is : taken ≡ Some pair = taken_is ∙ ap (λ some. slice_get some place) more_is
        ∙ slice_get-get_or (slots ++ last) place pair
        (omega (arith, within, length-append slots last)) ∙ ap Some (get_or_append_left slots last
        pair place within ∙ get_or_from_slice_get slots place pair pair at) in
        let same : slot ≡ pair.1 =
        same_Some slot pair.1 (sym slot_is ∙ slice_get-map (λ (p : SlotPair). p.1) slots place
        ∙ ap (option_map (λ (p : SlotPair). p.1)) at) in record {
          pair = pair;
          at = at;
          dead = same_Some (is_live_cache_slot pair) false (sym (slice_get-map is_live_cache_slot slots place
              ∙ ap (option_map is_live_cache_slot) at) ∙ dead);
          taken_is = is;
          new_is = rw is at new_is ∙ ap (λ some. swap_remove some place pair) more_is
              ∙ put_last slots (key, slot) place pair within
              ∙ ap (λ s. set slots place (key, s)) same;
        }

-- slots of the same flags
pub same_flags : (live : LiveCacheCounts) (first : ℕ) (old new : List SlotPair) →
    cache_live_flags_of new ≡ cache_live_flags_of old → AreCacheSlotsNamed 0 new → AreCacheSlots live first old →
    AreCacheSlots live first new
same_flags live first old new same named are =
    let front : cache_live_flags_of (take first new) ≡ cache_live_flags_of (take first old) =
    sym (take-map is_live_cache_slot first new) ∙ ap (take first) same ∙ take-map is_live_cache_slot first old in record {
      within = omega
          (arith, are.within, ap length same, length-map old is_live_cache_slot, length-map new is_live_cache_slot);
      dead = λ k d less. let fits : k < length (take first old) = omega (
        arith,
        less,
        ap length front,
        length-map (take first old) is_live_cache_slot,
        length-map (take first new) is_live_cache_slot,
      ) in
          sym (get_or-map is_live_cache_slot (take first new) k d false less)
          ∙ ap (λ flags. get_or flags k false) front
          ∙ get_or-map is_live_cache_slot (take first old) k d false fits ∙ are.dead k d fits;
      counted = subst (AreCacheLiveCounts live) (sym same) are.counted;
      named = named;
    }

-- the same slots under other counts
pub with_counts : (live more : LiveCacheCounts) (first : ℕ) (slots : List SlotPair) →
    AreCacheSlots live first slots → AreCacheLiveCounts more (cache_live_flags_of slots) → AreCacheSlots more first slots
with_counts live more first slots are counts = search rules

-- ---- a sweep

pub swept_pairs : (slots : List SlotPair) → live_cache_pairs (filter is_live_cache_slot slots) ≡ live_cache_pairs slots
swept_pairs [] = refl
swept_pairs (slot ∷ slots) = search (rules, swept_pairs slots)

pub swept_flags : (slots : List SlotPair) →
    cache_live_flags_of (filter is_live_cache_slot slots) ≡ replicate (length (filter is_live_cache_slot slots)) true
swept_flags [] = refl
swept_flags (slot ∷ slots) = search (rules, swept_flags slots)

pub swept_slots : (live : LiveCacheCounts) (slots : List SlotPair) → AreCacheLiveCounts live (cache_live_flags_of slots) →
    AreCacheSlotsNamed 0 slots → AreCacheSlots live 0 slots
swept_slots live slots are named = search (rules, length-take-le)

pub room_of : (live : LiveCacheCounts) (slots : List SlotPair) (places : ℕ) →
    AreCacheLiveCounts live (cache_live_flags_of slots) → places ≤ length slots → CountLiveCachePlaces live places
room_of live slots places are within =
    omega (arith, are.blocks.room, length-map slots is_live_cache_slot, within)

-- ---- a push

pub pushed_pairs : (slots : List SlotPair) (key : CacheKey) (learnt : LearntEntry) →
    live_cache_pairs (slots ++ (key, record { learnt = learnt; is_live = true }) ∷ [])
    ≡ live_cache_pairs slots ++ (key, learnt) ∷ []
pushed_pairs slots key learnt = search (rules, filter_map-append)

pub pushed_slots : (live more : LiveCacheCounts) (first : ℕ) (slots : List SlotPair) (key : CacheKey)
    (learnt : LearntEntry) → AreCacheSlots live first slots →
    AreCacheLiveCounts more (cache_live_flags_of slots ++ true ∷ []) → key.number < 2 ^ 33 →
    AreCacheSlots more first (slots ++ (key, record { learnt = learnt; is_live = true }) ∷ [])
pushed_slots live more first slots key learnt are counts small =
    search (rules, length_push, take-append-le, map_push, named_pushed)
