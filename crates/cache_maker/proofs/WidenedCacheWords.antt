-- The word after the bits below n were freed in turn.
use Rattle.std.proofs.Common.{◌<◌, ◌^◌, ◌≡◌, ◌≤◌, Bool, IsTrue, List, arith, cond, eq-eqb, eqb-true, false, inl, inr, refl, subst, suc, sym, true, zero, ℕ, rules}
use Rattle.std.specs.Int.{bit_at}
use Rattle.std.proofs.lemmas.Bool.{cases_lt}
use Rattle.ternary.specs.Exports.{WordCoversLaws, TernaryExactLaws, TernaryFreeLaws, IsWord, TernaryMeetLaws, WordValue, word_covers_of, exact_word, ternary_with_bit_freed, holds, is_word_bit_fixed}
use Rattle.policy_rules.specs.declared.rules.Rule.{Rule}
use Rattle.cache_maker.specs.Independent.{IsIndependentCacheWord, is_cache_word_independent, with_cache_bit_freed, widening_of}
use Rattle.cache_maker.proofs.IndependentCacheWords.{test_true, test_of, smaller}

-- a step widens
freed_wider : WordCoversLaws → TernaryFreeLaws → (region : WordValue) (rules : List Rule) (index bit : ℕ)
    (word : WordValue) → IsTrue (word_covers_of (with_cache_bit_freed region rules index bit word) word)
freed_wider covers free region rules index bit word =
    by_test (is_cache_word_independent region rules index (ternary_with_bit_freed word bit))
  where
    by_test : (b : Bool) → IsTrue (word_covers_of (cond b (ternary_with_bit_freed word bit) word) word)
    by_test true = free.wider word bit
    by_test false = covers.reflexive word

-- later words are wider
pub widened_wider : WordCoversLaws → TernaryFreeLaws → (h : ℕ) (region : WordValue) (rules : List Rule)
    (index n m : ℕ) → n ≤ m → IsTrue
    (word_covers_of (widening_of h region rules index m) (widening_of h region rules index n))
unfolding widening_of
widened_wider covers free h region rules index n zero upto = let none : 0 ≡ n = omega arith in
    subst (λ k. IsTrue (word_covers_of (exact_word h) (widening_of h region rules index k))) none
    (covers.reflexive (exact_word h))
widened_wider covers free h region rules index n (suc m) upto = elim (cases_lt m n) [
  | inl past ↦ let same : suc m ≡ n = omega arith in
      subst (λ k. IsTrue (word_covers_of (widening_of h region rules index (suc m))
      (widening_of h region rules index k))) same
      (covers.reflexive (widening_of h region rules index (suc m)))
  | inr within ↦ covers.transitive _ (widening_of h region rules index m) _
      (freed_wider covers free region rules index m _)
      (widened_wider covers free h region rules index n m within)
]

-- a bit that is fixed at last could not be freed in its turn
unfreed : WordCoversLaws → TernaryFreeLaws → (h : ℕ) (region : WordValue) (rules : List Rule) (index bit m : ℕ)
    → bit < m → IsTrue (is_word_bit_fixed (widening_of h region rules index m) bit)
    → is_cache_word_independent region rules index (ternary_with_bit_freed (widening_of h region rules index bit) bit) ≡ false
unfolding widening_of is_word_bit_fixed
unfreed covers free h region rules index bit m within fixed =
    let wider = widened_wider covers free h region rules index (suc bit) m (omega arith) in
    let still = ((covers.bitwise _ _).0 wider bit (eqb-true _ _ fixed)).0 in
    by_test (is_cache_word_independent region rules index (ternary_with_bit_freed (widening_of h region rules index bit) bit))
    refl still
  where
    by_test : (b : Bool) → is_cache_word_independent region rules index
        (ternary_with_bit_freed (widening_of h region rules index bit) bit) ≡ b
        → bit_at (cond b (ternary_with_bit_freed (widening_of h region rules index bit) bit)
        (widening_of h region rules index bit)).mask bit ≡ 1 → b ≡ false
    by_test true is one = let free_bit = free.same_bit (widening_of h region rules index bit) bit in
        let fixed_bit = eq-eqb _ _ one in cc
    by_test false is one = refl

-- and can't be freed at last
pub widest : WordCoversLaws → TernaryMeetLaws → TernaryFreeLaws → (h : ℕ) (region : WordValue) (rules : List Rule)
    (index bit : ℕ) → bit < 104 → IsTrue (is_word_bit_fixed (widening_of h region rules index 104) bit)
    → IsIndependentCacheWord region rules index (ternary_with_bit_freed (widening_of h region rules index 104) bit) → ⊥
widest covers meet free h region rules index bit within fixed is =
    let wider = free.monotone _ _ bit
    (widened_wider covers free h region rules index bit 104 (omega arith)) in
    let then = test_of region rules index _ (smaller covers meet region rules index _ _ wider is) in
    let not_then = unfreed covers free h region rules index bit 104 within fixed in cc

-- the header is held all along
pub widened_holds : WordCoversLaws → TernaryExactLaws → TernaryFreeLaws
    → (h : ℕ) (region : WordValue) (rules : List Rule) (index n : ℕ) → h < 2 ^ 104
    → IsTrue (holds (widening_of h region rules index n) h)
unfolding widening_of
widened_holds covers exact free h region rules index n bound = covers.held _ (exact_word h) h
    (widened_wider covers free h region rules index 0 n (omega arith))
    ((exact.holds h h bound bound).1 refl)

-- ---- one turn, with its test

pub turn_independent : (region : WordValue) (rules : List Rule) (index bit : ℕ) (test : Bool)
    (word after : WordValue) → IsIndependentCacheWord region rules index word
    → test ≡ is_cache_word_independent region rules index (ternary_with_bit_freed word bit)
    → after ≡ cond test (ternary_with_bit_freed word bit) word → IsIndependentCacheWord region rules index after
turn_independent region rules index bit true word after is tested made = rw made
    (test_true region rules index (ternary_with_bit_freed word bit) (sym tested))
turn_independent region rules index bit false word after is tested made = rw made is

pub turn_word : TernaryFreeLaws → (bit : ℕ) (test : Bool) (word after : WordValue) → IsWord word
    → after ≡ cond test (ternary_with_bit_freed word bit) word → IsWord after
turn_word free bit test word after is made = search rules

-- ---- all turns so far

pub widened_independent : (h : ℕ) (region : WordValue) (rules : List Rule) (index n : ℕ)
    → IsIndependentCacheWord region rules index (exact_word h) → IsIndependentCacheWord region rules index
    (widening_of h region rules index n)
unfolding widening_of
widened_independent h region rules index zero start = start
widened_independent h region rules index (suc n) start = turn_independent region rules index n
    (is_cache_word_independent region rules index (ternary_with_bit_freed (widening_of h region rules index n) n))
    (widening_of h region rules index n) (widening_of h region rules index (suc n))
    (widened_independent h region rules index n start) refl refl

pub widened_word : TernaryFreeLaws → (h : ℕ) (region : WordValue) (rules : List Rule) (index n : ℕ)
    → IsWord (exact_word h) → IsWord (widening_of h region rules index n)
unfolding widening_of
widened_word free h region rules index zero start = start
widened_word free h region rules index (suc n) start =
    turn_word free n (is_cache_word_independent region rules index
    (ternary_with_bit_freed (widening_of h region rules index n) n)) (widening_of h region rules index n)
    (widening_of h region rules index (suc n)) (widened_word free h region rules index n start) refl
