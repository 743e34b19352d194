-- Where the live slots stand, and what is left once one of them is dead or only some are kept.
use Rattle.std.proofs.Common.{[], ◌&&◌, ◌*◌, ◌+◌, ◌<◌, ◌∙◌, ◌∷◌, ◌≡◌, ◌≤◌, ◌⊎◌, All, Bool, IsFalse, List, None, Some, ap, arith, cond, drop, false, filter, get_or, inl, inr, length, length-set, map, option_map, refl, remove, replicate, set, slice_get, subst, suc, sym, take, true, zero, ℕ, rules}
use Rattle.base.proofs.Exports.{All-cons, All-head, All-nil, All-tail, cons_option, none-some, slice_get-get_or, slice_get-map, slice_get_within, sum_by-cons, sum_by-take-drop, sum_by-take-le, take-map, values_of}
use Rattle.indexmap.specs.Layout.{set_value_at}
use Rattle.switch_table.specs.Exports.{AreCacheLiveCounts, AreCacheSlotsNamed, AreCacheSlots, IsNthLiveCacheFlag, KeyedCacheEntry, SlotPair, cache_live_count_set, cache_live_flags_of, is_live_cache_slot, killed_cache_slot, live_cache_pair, live_cache_pairs}
use Rattle.switch_table.specs.declared.key.CacheKey.{CacheKey}
use Rattle.switch_table.specs.declared.key.Slot.{Slot}
use Rattle.switch_table.specs.declared.live.LiveCacheCounts.{LiveCacheCounts}
use Rattle.switch_table.proofs.CacheSlotKeys.{named_kept, named_killed}
use Rattle.switch_table.proofs.CacheLiveCounts.{count_both}
use Rattle.switch_table.proofs.CacheSlotPushes.{count_live, live_fit}

-- ---- the place of a live slot

count_cons : (flag : Bool) (flags : List Bool) →
    cache_live_count_set (flag ∷ flags) ≡ cond flag 1 0 + cache_live_count_set flags
count_cons flag flags = sum_by-cons (λ (b : Bool). cond b 1 0) flag flags

abbrev pub flag_of : Slot → Bool
flag_of slot = slot.is_live

pub flags_values : (slots : List SlotPair) → map flag_of (values_of slots) ≡ cache_live_flags_of slots
flags_values [] = refl
flags_values (slot ∷ slots) = ap (λ flags. is_live_cache_slot slot ∷ flags) (flags_values slots)

-- a live slot that is met once so many live ones are past
pub nth_here : (slots : List Slot) (before left place : ℕ) (d : Slot) → place < length slots
    → (get_or slots place d).is_live ≡ true → cache_live_count_set (map flag_of (take place slots)) + left
    ≡ before → left ≡ 0 → IsNthLiveCacheFlag before place (map flag_of slots)
nth_here slots before left place d within live counted none =
    search (rules, slice_get-map, slice_get-get_or, take-map)

slice_get_behind : (start at : ℕ) (flags : List Bool) →
    slice_get flags (start + at) ≡ slice_get (drop start flags) at
slice_get_behind zero at flags = ap (slice_get flags) (omega arith)
slice_get_behind (suc start) at [] = refl
slice_get_behind (suc start) at (flag ∷ flags) =
    let next : suc start + at ≡ suc (start + at) = omega arith in
    ap (slice_get (flag ∷ flags)) next ∙ slice_get_behind start at flags

-- from this place on, the live one that has so many before it there has so many in all
pub record IsStart (start left before : ℕ) (flags : List Bool) : Type 0 where
  pub past : cache_live_count_set (take start flags) + left ≡ before
  pub some : left < cache_live_count_set (drop start flags)

pub nth_behind : (start left before at : ℕ) (flags : List Bool) → IsStart start left before flags →
    IsNthLiveCacheFlag left at (drop start flags) → IsNthLiveCacheFlag before (start + at) flags
nth_behind start left before at flags begins nth = search (rules, slice_get_behind, count_both)

abbrev pub IsDead : SlotPair → Type 0
IsDead slot = IsFalse (is_live_cache_slot slot)

pub none_before : (first : ℕ) (slots : List SlotPair) → All IsDead (take first slots) →
    cache_live_count_set (take first (cache_live_flags_of slots)) ≡ 0
none_before zero slots dead = refl
none_before (suc first) [] dead = refl
none_before (suc first) (slot ∷ slots) dead =
    count_cons (is_live_cache_slot slot) (take first (cache_live_flags_of slots))
    ∙ ap (λ flag. cond flag 1 0 + cache_live_count_set (take first (cache_live_flags_of slots)))
    (All-head IsDead slot (take first slots) dead)
    ∙ omega (arith, none_before first slots (All-tail IsDead slot (take first slots) dead))

dead_before : (at : ℕ) (slots : List SlotPair) → cache_live_count_set (take at (cache_live_flags_of slots)) ≡ 0 →
    All IsDead (take at slots)
dead_before zero slots none = All-nil IsDead
dead_before (suc at) [] none = All-nil IsDead
dead_before (suc at) (slot ∷ slots) none =
    by_case (is_live_cache_slot slot) refl (sym (count_cons (is_live_cache_slot slot) (take at (cache_live_flags_of slots))) ∙ none)
    (λ rest. dead_before at slots rest)
  where
    n : ℕ
    n = cache_live_count_set (take at (cache_live_flags_of slots))

    by_case : (flag : Bool) → is_live_cache_slot slot ≡ flag → cond flag 1 0 + n ≡ 0 →
        (n ≡ 0 → All IsDead (take at slots)) → All IsDead (slot ∷ take at slots)
    by_case true live some rest = absurd (omega (arith, some))
    by_case false dead some rest =
        All-cons IsDead slot (take at slots) dead (rest (omega (arith, some)))

-- the first one is sought from `first` on
pub starts_first : (live : LiveCacheCounts) (first before : ℕ) (slots : List SlotPair) →
    AreCacheSlots live first slots → before < cache_live_count_set (cache_live_flags_of slots) → before ≡ 0 →
    IsStart first 0 before (cache_live_flags_of slots)
starts_first live first before slots are some none =
    let flags = cache_live_flags_of slots in
    let past = none_before first slots are.dead in record {
      past = omega (arith, past, none);
      some = omega (arith, past, some, none, sum_by-take-drop (λ (flag : Bool). cond flag 1 0) flags first);
    }

-- another one in its block
pub starts_block : (block left before : ℕ) (flags : List Bool) →
    (cache_live_count_set (take (64 * block) flags) + left ≡ before)
    × (left < cache_live_count_set (take 64 (drop (64 * block) flags))) →
    IsStart (block * 64) left before flags
starts_block block left before flags at = let start = 64 * block in
    subst (λ n. IsStart n left before flags) (omega arith) (record {
      past = at.0;
      some = omega (arith, at.1, sum_by-take-le);
    })

-- ---- its pair, and those that are left without it

pair_of_live : (slot : SlotPair) → slot.1.is_live ≡ true →
    live_cache_pair slot ≡ Some (slot.0, slot.1.learnt)
pair_of_live slot live = ap (λ b. cond b (Some (slot.0, slot.1.learnt)) None) live

live_at : (slots : List SlotPair) (at : ℕ) (slot : SlotPair) → slice_get slots at ≡ Some slot
    → slot.1.is_live ≡ true → slice_get (live_cache_pairs slots) (cache_live_count_set (take at (cache_live_flags_of slots)))
    ≡ Some (slot.0, slot.1.learnt)
live_at [] at slot there live = absurd (none-some slot there)
live_at (x ∷ xs) zero slot there live = search (rules, pair_of_live)
live_at (x ∷ xs) (suc at) slot there live =
    ap (slice_get (live_cache_pairs (x ∷ xs))) (count_cons (is_live_cache_slot x) (take at (cache_live_flags_of xs)))
    ∙ by_case (is_live_cache_slot x) (live_at xs at slot there live)
  where
    n : ℕ
    n = cache_live_count_set (take at (cache_live_flags_of xs))

    pair : KeyedCacheEntry
    pair = (slot.0, slot.1.learnt)

    first : KeyedCacheEntry
    first = (x.0, x.1.learnt)

    by_case : (b : Bool) → slice_get (live_cache_pairs xs) n ≡ Some pair →
        slice_get (cons_option (cond b (Some first) None) (live_cache_pairs xs)) (cond b 1 0 + n)
        ≡ Some pair
    by_case true is =
        let next : 1 + n ≡ suc n = omega arith in ap (slice_get (first ∷ live_cache_pairs xs)) next ∙ is
    by_case false is =
        let same : 0 + n ≡ n = omega arith in ap (slice_get (live_cache_pairs xs)) same ∙ is

live_killed : (slots : List SlotPair) (at : ℕ) (slot : SlotPair) → slice_get slots at ≡ Some slot
    → slot.1.is_live ≡ true → live_cache_pairs (set slots at (killed_cache_slot slot))
    ≡ remove (live_cache_pairs slots) (cache_live_count_set (take at (cache_live_flags_of slots)))
live_killed [] at slot there live = absurd (none-some slot there)
live_killed (x ∷ xs) zero slot there live = search (rules, pair_of_live)
live_killed (x ∷ xs) (suc at) slot there live =
    by_case (is_live_cache_slot x) (live_killed xs at slot there live)
    ∙ ap (remove (live_cache_pairs (x ∷ xs))) (sym (count_cons (is_live_cache_slot x) (take at (cache_live_flags_of xs))))
  where
    n : ℕ
    n = cache_live_count_set (take at (cache_live_flags_of xs))

    first : KeyedCacheEntry
    first = (x.0, x.1.learnt)

    left : List KeyedCacheEntry
    left = live_cache_pairs (set xs at (killed_cache_slot slot))

    by_case : (b : Bool) → left ≡ remove (live_cache_pairs xs) n →
        cons_option (cond b (Some first) None) left
        ≡ remove (cons_option (cond b (Some first) None) (live_cache_pairs xs)) (cond b 1 0 + n)
    by_case true is = let next : suc n ≡ 1 + n = omega arith in
        ap (λ ps. first ∷ ps) is ∙ ap (remove (first ∷ live_cache_pairs xs)) next
    by_case false is = let same : n ≡ 0 + n = omega arith in is ∙ ap (remove (live_cache_pairs xs)) same

flags_killed : (slots : List SlotPair) (at : ℕ) (slot : SlotPair) →
    cache_live_flags_of (set slots at (killed_cache_slot slot)) ≡ set (cache_live_flags_of slots) at false
flags_killed [] at slot = refl
flags_killed (x ∷ xs) zero slot = refl
flags_killed (x ∷ xs) (suc at) slot = ap (λ flags. is_live_cache_slot x ∷ flags) (flags_killed xs at slot)

dead_killed : (first : ℕ) (slots : List SlotPair) (at : ℕ) (slot : SlotPair) →
    All IsDead (take first slots) → All IsDead (take first (set slots at (killed_cache_slot slot)))
dead_killed zero slots at slot dead = All-nil IsDead
dead_killed (suc first) [] at slot dead = All-nil IsDead
dead_killed (suc first) (x ∷ xs) zero slot dead =
    All-cons IsDead (killed_cache_slot slot) (take first xs) refl (All-tail IsDead x (take first xs) dead)
dead_killed (suc first) (x ∷ xs) (suc at) slot dead = All-cons IsDead x
    (take first (set xs at (killed_cache_slot slot))) (All-head IsDead x (take first xs) dead)
    (dead_killed first xs at slot (All-tail IsDead x (take first xs) dead))

-- ---- what is kept

module _ (test : CacheKey → Bool) where
  -- the live slots whose keys pass
  abbrev pub is_kept : SlotPair → Bool
  is_kept slot = is_live_cache_slot slot && test slot.0

  abbrev passes : KeyedCacheEntry → Bool
  passes pair = test pair.0

  pub kept_pairs : (slots : List SlotPair) →
      live_cache_pairs (filter is_kept slots) ≡ filter (λ pair. test pair.0) (live_cache_pairs slots)
  kept_pairs [] = refl
  kept_pairs (x ∷ xs) = search (rules, pair_of_live, kept_pairs xs)

  kept_flags : (slots : List SlotPair) →
      cache_live_flags_of (filter is_kept slots) ≡ replicate (length (filter is_kept slots)) true
  kept_flags [] = refl
  kept_flags (x ∷ xs) = search (rules, kept_flags xs)

  -- all of these are live
  pub kept_slots : (live : LiveCacheCounts) (slots new : List SlotPair) (count : ℕ) →
      new ≡ filter is_kept slots → count ≡ length new → AreCacheLiveCounts live (replicate count true) →
      AreCacheSlotsNamed 0 slots → AreCacheSlots live 0 new
  kept_slots live slots new count made long counted named = search (rules, kept_flags, named_kept)

-- the slots past the dead ones at the front have all that live
pub past_dead : (first : ℕ) (slots : List SlotPair) → All IsDead (take first slots) →
    live_cache_pairs (drop first slots) ≡ live_cache_pairs slots
past_dead zero slots dead = refl
past_dead (suc first) [] dead = refl
past_dead (suc first) (slot ∷ slots) dead =
    past_dead first slots (All-tail IsDead slot (take first slots) dead)
    ∙ ap (λ b. cons_option (cond b (Some (slot.0, slot.1.learnt)) None) (live_cache_pairs slots))
    (sym (All-head IsDead slot (take first slots) dead))

-- ---- a slot is taken out

-- what that place holds once it is dead
pub set_at_killed : (slots : List SlotPair) (at : ℕ) (slot : SlotPair) (value : Slot) →
    Some value ≡ slice_get (values_of slots) at → slice_get slots at ≡ Some slot →
    set_value_at slots at (record value { is_live = false }) ≡ set slots at (killed_cache_slot slot)
set_at_killed [] at slot value is there = refl
set_at_killed (x ∷ xs) zero slot value is there = search rules
set_at_killed (x ∷ xs) (suc at) slot value is there = cc (set_at_killed xs at slot value is there)

-- the slot there is live
live_there : (slots : List SlotPair) (before at : ℕ) (slot : SlotPair)
    → IsNthLiveCacheFlag before at (cache_live_flags_of slots) → slice_get slots at ≡ Some slot → slot.1.is_live ≡ true
live_there slots before at slot nth there = search (rules, slice_get-map)

nth_slot : (slots : List SlotPair) (before at : ℕ) → IsNthLiveCacheFlag before at (cache_live_flags_of slots) →
    (slot : SlotPair) × (slice_get slots at ≡ Some slot)
nth_slot slots before at nth = search (rules, slice_get-map, none-some)

-- what is there is the pair in that place
pub nth_pair : (slots : List SlotPair) (before at : ℕ) → IsNthLiveCacheFlag before at (cache_live_flags_of slots) →
    option_map (λ (slot : SlotPair). (slot.0, slot.1.learnt)) (slice_get slots at)
    ≡ slice_get (live_cache_pairs slots) before
nth_pair slots before at nth = let (slot, there) = nth_slot slots before at nth in
    ap (option_map (λ (s : SlotPair). (s.0, s.1.learnt))) there
    ∙ sym (live_at slots at slot there (live_there slots before at slot nth there))
    ∙ ap (slice_get (live_cache_pairs slots)) nth.earlier

-- the slot at the place is dead now
abbrev pub IsKilled : ℕ → List SlotPair → List SlotPair → Type 0
IsKilled at slots new =
    (slot : SlotPair) → slice_get slots at ≡ Some slot → new ≡ set slots at (killed_cache_slot slot)

pub nth_killed : (slots new : List SlotPair) (before at : ℕ) → IsNthLiveCacheFlag before at (cache_live_flags_of slots)
    → IsKilled at slots new → live_cache_pairs new ≡ remove (live_cache_pairs slots) before
nth_killed slots new before at nth made = let (slot, there) = nth_slot slots before at nth in
    ap live_cache_pairs (made slot there)
    ∙ live_killed slots at slot there (live_there slots before at slot nth there)
    ∙ ap (remove (live_cache_pairs slots)) nth.earlier

-- the slots once it is dead: the first one is its place where none was before it
pub slots_killed : (old live : LiveCacheCounts) (first next before at : ℕ) (slots new : List SlotPair)
    → AreCacheSlots old first slots → IsNthLiveCacheFlag before at (cache_live_flags_of slots) → IsKilled at slots new →
    ((flags : List Bool) → AreCacheLiveCounts old flags → slice_get flags at ≡ Some true →
    AreCacheLiveCounts live (set flags at false)) → ((before ≡ 0) × (next ≡ at)) ⊎ (next ≡ first) →
    AreCacheSlots live next new
slots_killed old live first next before at slots new are nth kills takes begins =
    let (slot, there) = nth_slot slots before at nth in killed_at slot there (kills slot there)
  where
    dead : ((before ≡ 0) × (next ≡ at)) ⊎ (next ≡ first) → All IsDead (take next slots)
    dead (inl is) = rw is.1 (dead_before at slots (nth.earlier ∙ is.0))
    dead (inr is) = subst (λ n. All IsDead (take n slots)) (sym is) are.dead

    within : ((before ≡ 0) × (next ≡ at)) ⊎ (next ≡ first) → at < length slots → next ≤ length slots
    within (inl is) inside = omega (arith, inside, is.1)
    within (inr is) inside = omega (arith, is, are.within)

    killed_at : (slot : SlotPair) → slice_get slots at ≡ Some slot →
        new ≡ set slots at (killed_cache_slot slot) → AreCacheSlots live next new
    killed_at slot there made = record {
      within = let fits = within begins (slice_get_within slots at slot there) in
          omega (arith, ap length made, length-set slots at (killed_cache_slot slot), fits);
      dead = rw made (dead_killed next slots at slot (dead begins));
      counted = subst (AreCacheLiveCounts live) (sym (flags_killed slots at slot) ∙ ap cache_live_flags_of (sym made))
          (takes (cache_live_flags_of slots) are.counted nth.is_set);
      named = subst (AreCacheSlotsNamed 0) (sym made) (named_killed slots at slot are.named there);
    }

-- no more are live than there are
pub all_fit : (live : LiveCacheCounts) (slots : List SlotPair) → AreCacheLiveCounts live (cache_live_flags_of slots) →
    live.all ≤ length slots
all_fit live slots are = omega (arith, are.all, count_live slots, live_fit slots)
