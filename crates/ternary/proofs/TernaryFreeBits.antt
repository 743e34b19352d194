-- The list of a word's free bits.
use Rattle.std.proofs.Common.{[], ◌&&◌, ◌+◌, ◌<◌, ◌==◌, ◌↔◌, ◌∙◌, ◌∷◌, ◌≡◌, ◌≢◌, ◌≤◌, All, Bool, Contains, IsFalse, IsTrue, List, ap, arith, cond, false, filter, inl, inr, length, not, refl, subst, suc, sym, true, zero, ℕ, rules}
use Rattle.std.specs.List.{range_with_len}
use Rattle.std.specs.List.Sorted.{IsStrictlyIncreasing}
use Rattle.std.proofs.lemmas.Bool.{cases_eq, cond_both, cond-true, eq-eqb, ne_eqb, both_ways, and_right, not-true}
use Rattle.std.proofs.lemmas.List.Elements.{All-nil, All-contains, filter_agree}
use Rattle.std.proofs.lemmas.List.FromFn.{length-range_with_len, get_or-range_with_len}
use Rattle.std.proofs.lemmas.List.Kept.{IsStrictlyIncreasing-filter}
use Rattle.std.proofs.lemmas.Nat.Bits.{bit_at-zero, bit_at_ones}
use Rattle.std.proofs.Math.Bool.{and-true}
use Rattle.ternary.specs.Exports.{WordValue, any_word, exact_word, word_fix_of, free_word_bits, is_word_bit_fixed}
use Rattle.ternary.proofs.TernaryWords.{is_fixed_decides, fix_fixed, fix_other}

-- ---- words of no fixed bit, and of no free bit

pub any_unfixed : (k : ℕ) → IsFalse (is_word_bit_fixed any_word k)
unfolding is_word_bit_fixed
any_unfixed k = ap (λ d. d == 1) (bit_at-zero k)

pub exact_fixed : (h k : ℕ) → k < 104 → IsTrue (is_word_bit_fixed (exact_word h) k)
exact_fixed h k low = (is_fixed_decides (exact_word h) k).1 (bit_at_ones 104 k low)

-- ---- a test along a run of numbers

-- what is kept of the n numbers from a on
abbrev kept : (ℕ → Bool) → ℕ → ℕ → List ℕ
kept p a n = filter p (range_with_len a n)

-- a number of the run that passes
abbrev IsKept : (ℕ → Bool) → ℕ → ℕ → ℕ → Type 0
IsKept p a n k = (a ≤ k) × (k < a + n) × (p k ≡ true)

all_kept : (p : ℕ → Bool) (a n : ℕ) → All (IsKept p a n) (kept p a n)
all_kept p a zero = All-nil _
all_kept p a (suc n) = search (rules, all_kept p (a + 1) n)

Contains-cons : (xs : List ℕ) (y x : ℕ) → Contains xs x → Contains (y ∷ xs) x
Contains-cons xs y x (i, low, same) = (suc i, omega arith, same)

kept_has : (p : ℕ → Bool) (a n k : ℕ) → IsKept p a n k → Contains (kept p a n) k
kept_has p a zero k h = absurd (omega arith)
kept_has p a (suc n) k h = elim (cases_eq k a) [
  | inl here ↦ subst (λ xs. Contains xs k)
      (sym (cond-true (p a) (a ∷ kept p (a + 1) n) (kept p (a + 1) n) (ap p (sym here) ∙ h.2)))
      (0, omega arith, sym here)
  | inr away ↦ let rest = kept_has p (a + 1) n k (omega arith, omega arith, h.2) in
      cond_both (p a) (a ∷ kept p (a + 1) n) (kept p (a + 1) n) (λ xs. Contains xs k)
      (λ _. Contains-cons (kept p (a + 1) n) a k rest) (λ _. rest)
]

abbrev weight : Bool → ℕ
weight true = 1
weight false = 0

length_step : (b : Bool) (x : ℕ) (xs : List ℕ) → length (cond b (x ∷ xs) xs) ≡ weight b + length xs
length_step b x xs = search rules

-- two tests that differ at k alone
module _ (p q : ℕ → Bool) (k : ℕ) (agree : (j : ℕ) → j ≢ k → q j ≡ p j) where
  same_past : (a n : ℕ) → k < a → kept q a n ≡ kept p a n
  same_past a zero past = refl
  same_past a (suc n) past = let rest = same_past (a + 1) n (omega arith) in
      λ i. cond ((agree a (λ e. omega arith)) i) (a ∷ rest i) (rest i)

  one_less : p k ≡ true → q k ≡ false → (a n : ℕ) → a ≤ k → k < a + n
      → length (kept q a n) + 1 ≡ length (kept p a n)
  one_less passes fails a zero low high = absurd (omega arith)
  one_less passes fails a (suc n) low high =
      let at_p = length_step (p a) a (kept p (a + 1) n) in
      let at_q = length_step (q a) a (kept q (a + 1) n) in
      elim (cases_eq k a) [
        | inl here ↦ let one = ap weight (ap p (sym here) ∙ passes) in
            let none = ap weight (ap q (sym here) ∙ fails) in
            omega (arith, at_p, at_q, one, none, ap length (same_past (a + 1) n (omega arith)))
        | inr away ↦ omega (
          arith,
          at_p,
          at_q,
          (ap weight (agree a (λ e. away (sym e)))),
          one_less passes fails (a + 1) n (omega arith) (omega arith),
        )
      ]

filter_cond : (q : ℕ → Bool) (b : Bool) (x : ℕ) (xs ys : List ℕ) → filter q xs ≡ ys
    → filter q (cond b (x ∷ xs) xs) ≡ cond (b && q x) (x ∷ ys) ys
filter_cond q b x xs ys e = search rules

filter_twice : (p q : ℕ → Bool) (xs : List ℕ) → filter q (filter p xs) ≡ filter (λ x. p x && q x) xs
filter_twice p q [] = refl
filter_twice p q (x ∷ xs) = filter_cond q (p x) x (filter p xs) _ (filter_twice p q xs)

-- ---- the free bits

abbrev is_free : WordValue → ℕ → Bool
is_free w k = not (is_word_bit_fixed w k)

pub free_bits_member : (w : WordValue) (k : ℕ) → Contains (free_word_bits w) k
    ↔ ((k < 104) × IsFalse (is_word_bit_fixed w k))
unfolding free_word_bits
free_bits_member w k = (
  λ has. let h = All-contains (IsKept (is_free w) 0 104) (kept (is_free w) 0 104) k
      (all_kept (is_free w) 0 104) has in
      (omega (arith, h.1), not-true (is_word_bit_fixed w k) h.2),
  λ free. kept_has (is_free w) 0 104 k (omega arith, omega (arith, free.0), ap not free.1),
)

run_rises : (a n : ℕ) → IsStrictlyIncreasing (range_with_len a n)
run_rises a n i low = omega (arith, length-range_with_len, get_or-range_with_len)

pub free_bits_ascending : (w : WordValue) → IsStrictlyIncreasing (free_word_bits w)
unfolding free_word_bits
free_bits_ascending w = search (rules, IsStrictlyIncreasing-filter, run_rises)

all_pass : (p : ℕ → Bool) → ((k : ℕ) → p k ≡ true) → (xs : List ℕ) → filter p xs ≡ xs
all_pass p passes [] = refl
all_pass p passes (x ∷ xs) = cc (cond-true (p x) _ _ (passes x), all_pass p passes xs)

pub any_free_bits : length (free_word_bits any_word) ≡ 104
unfolding free_word_bits
any_free_bits = search (rules, all_pass, any_unfixed, length-range_with_len)

-- a list without elements
empty_list : (xs : List ℕ) → ((x : ℕ) → Contains xs x → ⊥) → xs ≡ []
empty_list [] none = refl
empty_list (x ∷ xs) none = absurd (none x (0, omega arith, refl))

pub exact_free_bits : (h : ℕ) → free_word_bits (exact_word h) ≡ []
exact_free_bits h = empty_list (free_word_bits (exact_word h)) (λ k has. let free =
    (free_bits_member (exact_word h) k).0 has in both_ways _ free.1 (exact_fixed h k free.0))

module _ (w : WordValue) (k : ℕ) (one : Bool) where
  pub free_bits_fixed : free_word_bits (word_fix_of w k one) ≡ filter (λ j. not (j == k)) (free_word_bits w)
  unfolding free_word_bits
  free_bits_fixed = filter_agree (is_free (word_fix_of w k one)) (λ j. is_free w j && not (j == k)) same
      (range_with_len 0 104)
      ∙ sym (filter_twice (is_free w) (λ j. not (j == k)) (range_with_len 0 104))
    where
      same : (j : ℕ) → is_free (word_fix_of w k one) j ≡ (is_free w j && not (j == k))
      same j = elim (cases_eq j k) [
        | inl here ↦ ap not (ap (is_word_bit_fixed (word_fix_of w k one)) here ∙ fix_fixed w k one)
            ∙ sym (and_right (is_free w j) (not (j == k)) (ap not (eq-eqb j k here)))
        | inr away ↦ ap not (fix_other w k one j away)
            ∙ sym (ap (λ t. is_free w j && t) (ap not (ne_eqb j k away)) ∙ and-true (is_free w j))
      ]

  pub free_bits_shorter : k < 104 → IsFalse (is_word_bit_fixed w k)
      → length (free_word_bits (word_fix_of w k one)) + 1 ≡ length (free_word_bits w)
  unfolding free_word_bits
  free_bits_shorter low free = one_less (is_free w) (is_free (word_fix_of w k one)) k
      (λ j away. ap not (fix_other w k one j away)) (ap not free) (ap not (fix_fixed w k one)) 0 104
      (omega arith) (omega arith)
