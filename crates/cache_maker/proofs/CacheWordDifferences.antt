-- The bits by which a rule differs from a header, and whether a word that is widened meets it.
use Rattle.std.proofs.Common.{◌%◌, ◌&&◌, ◌+◌, ◌/◌, ◌<◌, ◌==◌, ◌^◌, ◌||◌, ◌∙◌, ◌≡◌, ◌≢◌, ◌≤◌, Bool, IsSomeAnd, IsTrue, List, ap, arith, bit_and, bit_xor, cond, eq-eqb, eqb-true, false, get_or, inl, inr, length, min, ne_eqb, not, subst, suc, sym, take, true, zero, ℕ, rules}
use Rattle.std.specs.Int.{bit_at}
use Rattle.std.proofs.lemmas.Bool.{cases_eq}
use Rattle.std.proofs.lemmas.Bool.Decides.{nat_tests}
use Rattle.std.proofs.lemmas.Option.{slice_get-get_or}
use Rattle.std.proofs.lemmas.Nat.{and_mod, and_shr, xor_mod, xor_shr}
use Rattle.std.proofs.lemmas.Nat.Bits.{bit_at_and, bit_at_xor, bit_at-lt, bit_at_above}
use Rattle.ternary.specs.Exports.{WordCoversLaws, TernaryExactLaws, TernaryFreeLaws, IsWord, WordValue, words_agree_at, word_covers_of, exact_word, ternary_with_bit_freed, is_word_bit_fixed}
use Rattle.policy_rules.specs.declared.rules.Rule.{Rule}
use Rattle.cache_maker.specs.Independent.{IsIndependentCacheWord, is_cache_word_apart, is_cache_word_independent, widening_of}
use Rattle.cache_maker.specs.Differing.{cache_widening_difference, meets_widened_word}
use Rattle.cache_maker.proofs.IndependentCacheWords.{is_independent_at}
use Rattle.cache_maker.proofs.WidenedCacheWords.{widened_wider}

-- ---- the fixed bits of a word that is widened from the lowest bit on

pub still_fixed : TernaryExactLaws → TernaryFreeLaws → (h : ℕ) (region : WordValue) (rules : List Rule)
    (index n j : ℕ) → n ≤ j → j < 104 → IsTrue (is_word_bit_fixed (widening_of h region rules index n) j)
unfolding widening_of
still_fixed exact free h region rules index zero j from below = exact.no_free_bit h j below
still_fixed exact free h region rules index (suc n) j from below =
    let before = still_fixed exact free h region rules index n j (omega arith) below in
    by_test (is_cache_word_independent region rules index (ternary_with_bit_freed (widening_of h region rules index n) n))
    (omega arith)
    before
  where
    by_test : (b : Bool) → j ≢ n → IsTrue (is_word_bit_fixed (widening_of h region rules index n) j)
        → IsTrue (is_word_bit_fixed (cond b (ternary_with_bit_freed (widening_of h region rules index n) n)
        (widening_of h region rules index n)) j)
    by_test true other before = free.other_bit (widening_of h region rules index n) n j other
        ∙ before
    by_test false other before = before

pub as_header : WordCoversLaws → TernaryFreeLaws → (h : ℕ) (region : WordValue) (rules : List Rule)
    (index n j : ℕ) → IsTrue (is_word_bit_fixed (widening_of h region rules index n) j)
    → bit_at (widening_of h region rules index n).value j ≡ bit_at h j
unfolding widening_of is_word_bit_fixed
as_header covers free h region rules index n j fixed =
    let wider = widened_wider covers free h region rules index 0 n (omega arith) in
    sym (((covers.bitwise _ (exact_word h)).0 wider j (eqb-true _ _ fixed)).1)

-- ---- one bit of the word and of a rule

abbrev differ : ℕ → ℕ → ℕ → Bool
differ a b m = not (m == 1) || (a == b)

digits_differ : (a b m : ℕ) → a < 2 → b < 2 → m < 2 → differ a b m ≡ false → min ((a + b) % 2) m ≡ 1
digits_differ a b m p q r e = grind (arith, nat_tests)

none_of : (n : ℕ) → min n 0 ≡ 0
none_of n = omega arith

digits_agree : (a b m : ℕ) → a < 2 → b < 2 → m < 2 → differ a b m ≡ true → min ((a + b) % 2) m ≡ 0
digits_agree a b m p q r e = grind (arith, nat_tests)

bit_at_differing : (h : ℕ) (rule : WordValue) (j : ℕ) → bit_at (cache_widening_difference h rule) j ≡ min
    ((bit_at h j + bit_at rule.value j) % 2) (bit_at rule.mask j)
bit_at_differing h rule j = search (rules, bit_at_and, bit_at_xor)

-- where the word fixes the bit, to the header's
agrees_as : (word rule : WordValue) (h j : ℕ) → IsTrue (is_word_bit_fixed word j)
    → bit_at word.value j ≡ bit_at h j → words_agree_at word rule j ≡ differ (bit_at h j)
    (bit_at rule.value j) (bit_at rule.mask j)
unfolding words_agree_at is_word_bit_fixed
agrees_as word rule h j fixed same = cc (fixed, same)

pub differs_at : (word rule : WordValue) (h j : ℕ) → IsTrue (is_word_bit_fixed word j)
    → bit_at word.value j ≡ bit_at h j
    → words_agree_at word rule j ≡ false → bit_at (cache_widening_difference h rule) j ≡ 1
differs_at word rule h j fixed same e =
    search (rules, bit_at_differing, digits_differ, bit_at-lt, agrees_as)

pub same_at : (word rule : WordValue) (h j : ℕ) → IsTrue (is_word_bit_fixed word j)
    → bit_at word.value j ≡ bit_at h j → IsTrue (words_agree_at word rule j)
    → bit_at (cache_widening_difference h rule) j ≡ 0
same_at word rule h j fixed same e = bit_at_differing h rule j ∙ digits_agree _ _ _ (bit_at-lt h j)
    (bit_at-lt rule.value j) (bit_at-lt rule.mask j) (sym (agrees_as word rule h j fixed same) ∙ e)

pub past_header : (h j : ℕ) (rule : WordValue) → IsWord rule → 104 ≤ j
    → bit_at (cache_widening_difference h rule) j ≡ 0
past_header h j rule is past = search (rules, bit_at_differing, bit_at_above)

-- ---- the test

and_one : (a b c : Bool) → a ≡ (b && c) → c ≡ true → a ≡ b
and_one a b c e one = search rules

freed_cover : TernaryFreeLaws → (a word : WordValue) (bit : ℕ) → IsTrue (word_covers_of a word)
    → word_covers_of a (ternary_with_bit_freed word bit) ≡ not (is_word_bit_fixed a bit)
freed_cover free a word bit covered = and_one _ _ _ (free.freed_covered a word bit) covered

pub test_parts : TernaryFreeLaws → (region : WordValue) (rules : List Rule) (index bit : ℕ)
    (word : WordValue) (d : Rule) → index < length rules → IsIndependentCacheWord region rules index word
    → ((not (is_word_bit_fixed region bit) && not (is_word_bit_fixed (get_or rules index d).word bit))
    && is_cache_word_apart (ternary_with_bit_freed word bit) (take index rules)) ≡ is_cache_word_independent region rules index
    (ternary_with_bit_freed word bit)
test_parts free region rules index bit word d within is =
    sym (is_independent_at region rules index (ternary_with_bit_freed word bit) d within
    ∙ ap (λ b. (b && word_covers_of (get_or rules index d).word (ternary_with_bit_freed word bit))
    && is_cache_word_apart (ternary_with_bit_freed word bit) (take index rules))
    (freed_cover free region word bit is.in_region) ∙ ap (λ b. (not (is_word_bit_fixed region bit) && b)
    && is_cache_word_apart (ternary_with_bit_freed word bit) (take index rules)) (freed_cover free (get_or rules index d).word
    word bit (subst (λ o. IsSomeAnd o (λ (rule : Rule). IsTrue (word_covers_of rule.word word)))
    (slice_get-get_or rules index d within) is.in_rule)))

-- ---- the upper halves

upper_is : (h : ℕ) (word : WordValue) (fixed : ℕ) → bit_and (cache_widening_difference h word) fixed / 2 ^ 64
    ≡ bit_and (bit_and (bit_xor (h / 2 ^ 64) (word.value / 2 ^ 64)) (word.mask / 2 ^ 64))
    (fixed / 2 ^ 64)
upper_is h word fixed = search (rules, and_shr, xor_shr)

lower_is : (h : ℕ) (word : WordValue) (fixed : ℕ) → bit_and (cache_widening_difference h word) fixed % 2 ^ 64
    ≡ bit_and (bit_and (bit_xor (h % 2 ^ 64) (word.value % 2 ^ 64)) (word.mask % 2 ^ 64))
    (fixed % 2 ^ 64)
lower_is h word fixed = search (rules, and_mod, xor_mod)

-- a bit of the upper half tells them apart
pub upper_tells : (h fixed : ℕ) (word : WordValue) → (bit_and (bit_and (bit_xor (h / 2 ^ 64)
    (word.value / 2 ^ 64)) (word.mask / 2 ^ 64)) (fixed / 2 ^ 64) ≡ 0 → ⊥)
    → meets_widened_word h fixed word ≡ false
upper_tells h fixed word some = ne_eqb _ _ (λ none. some (sym (upper_is h word fixed)
    ∙ ap (λ x. x / 2 ^ 64) none))

-- where none does, the lower half tells
pub lower_tells : (h fixed : ℕ) (word : WordValue) → bit_and (bit_and (bit_xor (h / 2 ^ 64)
    (word.value / 2 ^ 64)) (word.mask / 2 ^ 64)) (fixed / 2 ^ 64) ≡ 0
    → (bit_and (bit_and (bit_xor (h % 2 ^ 64) (word.value % 2 ^ 64)) (word.mask % 2 ^ 64))
    (fixed % 2 ^ 64) == 0) ≡ meets_widened_word h fixed word
lower_tells h fixed word upper = ap (λ x. x == 0) (sym (lower_is h word fixed))
    ∙ same_test (bit_and (cache_widening_difference h word) fixed) (upper_is h word fixed ∙ upper)
  where
    same_test : (n : ℕ) → n / 2 ^ 64 ≡ 0 → (n % 2 ^ 64 == 0) ≡ (n == 0)
    same_test n none = elim (cases_eq n 0) [
      | inl same ↦ eq-eqb _ _ (ap (λ x. x % 2 ^ 64) same) ∙ sym (eq-eqb n 0 same)
      | inr other ↦ ne_eqb _ _ (λ lower. other (omega (arith, none, lower))) ∙ sym (ne_eqb n 0 other)
    ]
