-- Where the first live slot is whose key has a header's bits under one of some masks.
use Rattle.std.proofs.Common.{[], ◌&&◌, ◌+◌, ◌<◌, ◌^◌, ◌||◌, ◌∙◌, ◌∷◌, ◌≡◌, Bool, List, Some, ap, arith, bit_and, cond, false, find, get_or, length, min, not, option_map, refl, slice_get, subst, suc, sym, take, true, ℕ, rules}
use Rattle.base.proofs.Exports.{AllByRecursion, IsDistinct, and_assoc, and_self, find_at, keys_of, list_any_more, none_both, place_both, place_either, position_or_len, same_Some}
use Rattle.ternary.specs.Exports.{IsWord, WordValue}
use Rattle.switch_table.specs.Exports.{KeyedCacheEntry, SlotPair, equal_cache_keys, is_cache_key_hit, is_live_cache_slot, cache_key_under, live_cache_pairs}
use Rattle.switch_table.specs.declared.key.CacheKey.{CacheKey}
use Rattle.switch_table.proofs.CacheSlotPushes.{equal_keys_same}

-- ---- the place of a key

abbrev pub has : CacheKey → SlotPair → Bool
has key slot = equal_cache_keys key slot.0

-- of this key, and live
abbrev pub has_live : CacheKey → SlotPair → Bool
has_live key slot = equal_cache_keys key slot.0 && is_live_cache_slot slot

-- the map's place of a key, as its keys say it
keys_place : (key : CacheKey) (slots : List SlotPair) →
    position_or_len (equal_cache_keys key) (keys_of slots) ≡ position_or_len (has key) slots
keys_place key [] = refl
keys_place key (slot ∷ slots) = cc (keys_place key slots)

pub place_live : (key : CacheKey) (slots : List SlotPair) (place : ℕ) (slot : SlotPair) →
    position_or_len (equal_cache_keys key) (keys_of slots) ≡ place → slice_get slots place ≡ Some slot →
    slot.1.is_live ≡ true → place ≡ position_or_len (has_live key) slots
place_live key slots place slot is there live =
    let at : position_or_len (has key) slots ≡ place = sym (keys_place key slots) ∙ is in
    sym (place_both (has key) is_live_cache_slot slots slot (ap (slice_get slots) at ∙ there) live ∙ at)

pub place_missing : (key : CacheKey) (slots : List SlotPair) →
    position_or_len (equal_cache_keys key) (keys_of slots) ≡ length slots →
    length slots ≡ position_or_len (has_live key) slots
place_missing key slots none =
    sym (none_both (has key) is_live_cache_slot slots (sym (keys_place key slots) ∙ none))

none_behind : (key : CacheKey) (slots : List SlotPair) →
    AllByRecursion (λ other. equal_cache_keys key other ≡ false) (keys_of slots) →
    position_or_len (has_live key) slots ≡ length slots
none_behind key [] apart = refl
none_behind key (slot ∷ slots) apart =
    ap (λ b. cond (not (b && is_live_cache_slot slot)) (1 + position_or_len (has_live key) slots) 0) apart.0
    ∙ omega (arith, none_behind key slots apart.1)

dead_place : (key : CacheKey) (slots : List SlotPair) (slot : SlotPair) →
    IsDistinct equal_cache_keys (keys_of slots) →
    slice_get slots (position_or_len (has key) slots) ≡ Some slot → slot.1.is_live ≡ false →
    position_or_len (has_live key) slots ≡ length slots
unfolding IsDistinct
dead_place key [] slot distinct there dead = refl
dead_place key (x ∷ xs) slot distinct there dead =
    by_case (equal_cache_keys key x.0) refl there (dead_place key xs slot distinct.1)
  where
    n : ℕ
    n = position_or_len (has key) xs

    both : ℕ
    both = position_or_len (has_live key) xs

    by_case : (a : Bool) → equal_cache_keys key x.0 ≡ a → slice_get (x ∷ xs) (cond (not a) (1 + n) 0)
        ≡ Some slot → (slice_get xs n ≡ Some slot → slot.1.is_live ≡ false → both ≡ length xs)
        → cond (not (a && is_live_cache_slot x)) (1 + both) 0 ≡ length (x ∷ xs)
    by_case true same here rest =
        let gone : is_live_cache_slot x ≡ false = ap is_live_cache_slot (same_Some x slot here) ∙ dead in
        let none = none_behind key xs (subst (λ k.
        AllByRecursion (λ other. equal_cache_keys k other ≡ false) (keys_of xs))
        (sym (equal_keys_same key x.0 same)) distinct.0) in
        ap (λ b. cond (not b) (1 + both) 0) gone ∙ omega (arith, none)
    by_case false apart later rest =
        let next : suc n ≡ 1 + n = omega arith in
        let none = rest (ap (slice_get (x ∷ xs)) next ∙ later) dead in omega (arith, none)

-- no other slot has the key of a dead one
pub place_dead : (key : CacheKey) (slots : List SlotPair) (place : ℕ) (slot : SlotPair) →
    IsDistinct equal_cache_keys (keys_of slots) →
    position_or_len (equal_cache_keys key) (keys_of slots) ≡ place → slice_get slots place ≡ Some slot →
    slot.1.is_live ≡ false → length slots ≡ position_or_len (has_live key) slots
place_dead key slots place slot distinct is there dead = search (rules, keys_place, dead_place)

-- a header's bits under a mask are a word
pub under_is_word : (header mask : ℕ) → mask < 2 ^ 104 →
    IsWord (record { value = bit_and header mask; mask = mask })
under_is_word header mask bounded = record {
  within = and_assoc mask header mask ∙ ap (bit_and header) (and_self mask);
  bounded = bounded;
}

-- ---- the first of some masks

-- of a key of one of these masks, and live
abbrev pub hit_live : ℕ → ℕ → List WordValue → SlotPair → Bool
hit_live number header masks slot = is_cache_key_hit number header masks slot.0 && is_live_cache_slot slot

-- one more mask
pub hit_more : (number header i : ℕ) (masks : List WordValue) (mask : WordValue)
    (slots : List SlotPair) → i < length masks → mask ≡ get_or masks i mask →
    position_or_len (hit_live number header (take (i + 1) masks)) slots
    ≡ min (position_or_len (hit_live number header (take i masks)) slots)
    (position_or_len (has_live (cache_key_under number header mask)) slots)
hit_more number header i masks mask slots within is =
    (λ k. position_or_len (λ (slot : SlotPair). more slot k) slots)
    ∙ place_either (hit_live number header (take i masks))
    (has_live (cache_key_under number header mask)) slots
  where
    shared : (a b c : Bool) → ((a || b) && c) ≡ ((a && c) || (b && c))
    shared true true true = refl
    shared true true false = refl
    shared true false true = refl
    shared true false false = refl
    shared false b c = refl

    key_more : (key : CacheKey) → is_cache_key_hit number header (take (i + 1) masks) key
        ≡ (is_cache_key_hit number header (take i masks) key || equal_cache_keys (cache_key_under number header mask) key)
    key_more key =
        cc (list_any_more (λ m. equal_cache_keys (cache_key_under number header m) key) masks i mask within, is)

    more : (slot : SlotPair) → hit_live number header (take (i + 1) masks) slot ≡ (hit_live number
        header (take i masks) slot || has_live (cache_key_under number header mask) slot)
    more slot = ap (λ b. b && is_live_cache_slot slot) (key_more slot.0)
        ∙ shared (is_cache_key_hit number header (take i masks) slot.0)
        (equal_cache_keys (cache_key_under number header mask) slot.0) (is_live_cache_slot slot)

abbrev pub pair_at : SlotPair → KeyedCacheEntry
pair_at slot = (slot.0, slot.1.learnt)

first_live : (test : CacheKey → Bool) (slots : List SlotPair) →
    option_map pair_at (find (λ slot. test slot.0 && is_live_cache_slot slot) slots)
    ≡ find (λ pair. test pair.0) (live_cache_pairs slots)
first_live test [] = refl
first_live test (x ∷ xs) = search (rules, first_live test xs)

-- what is at the first place is the first one
pub hit_at : (test : CacheKey → Bool) (slots : List SlotPair) (place : ℕ) →
    place ≡ position_or_len (λ slot. test slot.0 && is_live_cache_slot slot) slots →
    option_map pair_at (slice_get slots place) ≡ find (λ pair. test pair.0) (live_cache_pairs slots)
hit_at test slots place is =
    cc (is, find_at (λ slot. test slot.0 && is_live_cache_slot slot) slots, first_live test slots)
