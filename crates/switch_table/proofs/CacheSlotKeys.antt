-- The keys of slots: those of versions, and those of the places of dead slots.
use Rattle.std.proofs.Common.{[], ◌&&◌, ◌++◌, ◌+◌, ◌-◌, ◌<◌, ◌^◌, ◌∙◌, ◌∷◌, ◌≡◌, ◌≢◌, Bool, List, None, Some, ap, arith, cond, false, filter, inl, inr, ne_eqb, refl, set, slice_get, subst, suc, sym, true, zero, ℕ, rules}
use Rattle.base.proofs.Exports.{false≢true, lookup, none-some}
use Rattle.ternary.specs.Exports.{word_eq}
use Rattle.switch_table.specs.Exports.{AreCacheSlotsNamed, IsCacheSlotNamed, SlotPair, equal_cache_keys, is_live_cache_slot, killed_cache_slot}
use Rattle.switch_table.specs.declared.key.CacheKey.{CacheKey}

named_at : (n : ℕ) (slots : List SlotPair) (at : ℕ) (slot : SlotPair) → AreCacheSlotsNamed n slots →
    slice_get slots at ≡ Some slot → IsCacheSlotNamed (n + at) slot
unfolding AreCacheSlotsNamed
named_at n [] at slot named there = absurd (none-some slot there)
named_at n (x ∷ xs) zero slot named there = search rules
named_at n (x ∷ xs) (suc at) slot named there = let same : suc n + at ≡ n + suc at = omega arith in
    subst (λ p. IsCacheSlotNamed p slot) same (named_at (suc n) xs at slot named.1 there)

pub named_set : (n : ℕ) (slots : List SlotPair) (at : ℕ) (slot : SlotPair) → AreCacheSlotsNamed n slots →
    IsCacheSlotNamed (n + at) slot → AreCacheSlotsNamed n (set slots at slot)
unfolding AreCacheSlotsNamed
named_set n [] at slot named is = tt
named_set n (x ∷ xs) zero slot named is = search rules
named_set n (x ∷ xs) (suc at) slot named is = let same : n + suc at ≡ suc n + at = omega arith in
    (named.0, named_set (suc n) xs at slot named.1 (subst (λ p. IsCacheSlotNamed p slot) same is))

-- a slot that dies keeps its key
pub named_killed : (slots : List SlotPair) (at : ℕ) (slot : SlotPair) → AreCacheSlotsNamed 0 slots →
    slice_get slots at ≡ Some slot → AreCacheSlotsNamed 0 (set slots at (killed_cache_slot slot))
named_killed slots at slot named there =
    named_set 0 slots at (killed_cache_slot slot) named (dies (named_at 0 slots at slot named there))
  where
    dies : IsCacheSlotNamed (0 + at) slot → IsCacheSlotNamed (0 + at) (killed_cache_slot slot)
    dies (inl small) = inl small
    dies (inr own) = inr (own.0, refl)

pub named_pushed : (n : ℕ) (slots : List SlotPair) (slot : SlotPair) → AreCacheSlotsNamed n slots →
    slot.0.number < 2 ^ 33 → AreCacheSlotsNamed n (slots ++ slot ∷ [])
unfolding AreCacheSlotsNamed
named_pushed n [] slot named small = (inl small, tt)
named_pushed n (x ∷ xs) slot named small = (named.0, named_pushed (suc n) xs slot named.1 small)

-- where none but live ones are kept, these may have other places
pub named_kept : (keep : SlotPair → Bool) →
    ((slot : SlotPair) → keep slot ≡ true → is_live_cache_slot slot ≡ true) → (n m : ℕ)
    (slots : List SlotPair) → AreCacheSlotsNamed n slots → AreCacheSlotsNamed m (filter keep slots)
unfolding AreCacheSlotsNamed
named_kept keep lives n m [] named = tt
named_kept keep lives n m (x ∷ xs) named = by_case (keep x) refl named.0
    (λ k. named_kept keep lives (suc n) k xs named.1)
  where
    by_case : (stays : Bool) → keep x ≡ stays → IsCacheSlotNamed n x →
        ((k : ℕ) → AreCacheSlotsNamed k (filter keep xs)) →
        AreCacheSlotsNamed m (cond stays (x ∷ filter keep xs) (filter keep xs))
    by_case true is (inl small) rest = (inl small, rest (suc m))
    by_case true is (inr own) rest = absurd (false≢true (sym own.1 ∙ lives x is))
    by_case false is one rest = rest m

-- no slot has the key of a place whose own slot has one of a version
pub named_absent : (key : CacheKey) (place n : ℕ) (slots : List SlotPair) →
    key.number + place ≡ 2 ^ 64 - 1 → place < 2 ^ 63 → AreCacheSlotsNamed n slots →
    ((at : ℕ) (slot : SlotPair) → slice_get slots at ≡ Some slot → n + at ≡ place →
    slot.0.number < 2 ^ 33) → lookup (equal_cache_keys key) slots ≡ None
unfolding AreCacheSlotsNamed equal_cache_keys
named_absent key place n [] is fits named old = refl
named_absent key place n (x ∷ xs) is fits named old =
    ap (λ b. cond b (Some x.1) (lookup (equal_cache_keys key) xs)) apart ∙ named_absent key place (suc n)
    xs is fits named.1 (λ at slot there here. old (suc at) slot there (omega (arith, here)))
  where
    other : key.number ≢ x.0.number
    other same = elim named.0 [
      | inl small ↦ absurd (omega (arith, same, small, is, fits))
      | inr own ↦ let here : n + 0 ≡ place = omega (arith, same, own.0, is) in
          let small = old 0 x refl here in absurd (omega (arith, same, small, is, fits))
    ]

    apart : equal_cache_keys key x.0 ≡ false
    apart = ap (λ b. b && word_eq key.word x.0.word) (ne_eqb key.number x.0.number other)
