-- Masks as sets of bits.
use Rattle.std.proofs.Common.{◌&&◌, ◌+◌, ◌-◌, ◌<◌, ◌==◌, ◌^◌, ◌||◌, ◌↔◌, ◌∙◌, ◌≡◌, Bool, List, ap, arith, bit_and, bit_or, eqb-true, false, get_or, inl, inr, length, max, min, sym, take, true, ℕ, rules}
use Rattle.std.specs.Int.{w128, bit_at, trailing_zeros}
use Rattle.std.proofs.lemmas.Bool.{cases_lt, cases_Bool}
use Rattle.std.proofs.lemmas.Bool.Decides.{nat_tests}
use Rattle.std.proofs.lemmas.List.Folds.{list_all_more, list_any_more}
use Rattle.std.proofs.lemmas.Nat.Bits.{bit_at-lt, bit_at-zero, bit_at_and, bit_at_or, bit_at_ones, bit_at-trailing_zeros}
use Rattle.ternary.specs.Exports.{WordValue, is_word_bit_fixed}
use Rattle.ternary.proofs.TernaryCallerLemmas.{both_set}
use Rattle.cut_tree.specs.Exports.{IsCuttableBit}
use Rattle.table_tree.specs.Cutting.{IsLowestLookupBit, IsLeastFreeLookupBit, LookupPassesNoFreeBit}
use Rattle.table_tree.specs.Regions.{table_tree_all_fix, table_tree_some_fixes}
use Rattle.table_tree.specs.declared.node.Candidate.{Candidate}

-- ---- one bit of a mask

min_digit : (a b : ℕ) → a < 2 → b < 2 → (min a b == 1) ≡ ((a == 1) && (b == 1))
min_digit a b p q = grind (arith, nat_tests)

max_digit : (a b : ℕ) → a < 2 → b < 2 → (max a b == 1) ≡ ((a == 1) || (b == 1))
max_digit a b p q = grind (arith, nat_tests)

and_bit : (a b k : ℕ) → (bit_at (bit_and a b) k == 1) ≡ ((bit_at a k == 1) && (bit_at b k == 1))
and_bit a b k = search (rules, bit_at_and, min_digit, bit_at-lt)

or_bit : (a b k : ℕ) → (bit_at (bit_or a b) k == 1) ≡ ((bit_at a k == 1) || (bit_at b k == 1))
or_bit a b k = search (rules, bit_at_or, max_digit, bit_at-lt)

-- ---- the bits that regions fix

mask_fixes : (candidates : List Candidate) (index : ℕ) (candidate : Candidate) (mask bit : ℕ)
    → candidate ≡ get_or candidates index candidate → mask ≡ candidate.region.mask
    → (bit_at mask bit == 1) ≡ is_word_bit_fixed (get_or candidates index candidate).region bit
unfolding is_word_bit_fixed
mask_fixes candidates index candidate mask bit is same = cc (same, is)

pub all_more : (candidates : List Candidate) (index : ℕ) (candidate : Candidate) (bits mask bit : ℕ)
    → index < length candidates → candidate ≡ get_or candidates index candidate
    → mask ≡ candidate.region.mask → (bit_at bits bit == 1) ≡ table_tree_all_fix (take index candidates) bit
    → (bit_at (bit_and bits mask) bit == 1) ≡ table_tree_all_fix (take (index + 1) candidates) bit
all_more candidates index candidate bits mask bit within is same so_far = and_bit bits mask bit
    ∙ ap (λ t. t && (bit_at mask bit == 1)) so_far ∙ ap (λ t. table_tree_all_fix (take index candidates) bit
    && t) (mask_fixes candidates index candidate mask bit is same) ∙ sym
    (list_all_more (λ (s : Candidate). is_word_bit_fixed s.region bit) candidates index candidate within)

pub some_more : (candidates : List Candidate)
    (index : ℕ) (candidate : Candidate) (bits mask bit : ℕ) → index < length candidates
    → candidate ≡ get_or candidates index candidate
    → mask ≡ candidate.region.mask → (bit_at bits bit == 1) ≡ table_tree_some_fixes (take index candidates) bit
    → (bit_at (bit_or bits mask) bit == 1) ≡ table_tree_some_fixes (take (index + 1) candidates) bit
some_more candidates index candidate bits mask bit within is same so_far = or_bit bits mask bit
    ∙ ap (λ t. t || (bit_at mask bit == 1)) so_far ∙ ap (λ t. table_tree_some_fixes (take index candidates) bit
    || t) (mask_fixes candidates index candidate mask bit is same) ∙ sym
    (list_any_more (λ (s : Candidate). is_word_bit_fixed s.region bit) candidates index candidate within)

pub all_none : (bit : ℕ) → bit < 104 → (bit_at (2 ^ 104 - 1) bit == 1) ≡ true
all_none bit within = ap (λ n. n == 1) (bit_at_ones 104 bit within)

pub some_none : (bit : ℕ) → (bit_at 0 bit == 1) ≡ false
some_none bit = ap (λ n. n == 1) (bit_at-zero bit)

-- ---- the least bit

pub lowest_of : (n : ℕ) → 0 < n → n < 2 ^ 128 → IsLowestLookupBit n (trailing_zeros w128 n)
lowest_of n some small = let lowest = bit_at-trailing_zeros w128 n some small in
    record { set = lowest.1; below = lowest.2 }

-- a mask of the bits that pass, and one of the bits that are free
pub least_free : (region : WordValue) (passes : ℕ → Bool) (bits free bit : ℕ)
    → ((k : ℕ) → k < 104 → (bit_at bits k == 1) ≡ passes k)
    → ((k : ℕ) → (bit_at free k ≡ 1) ↔ IsCuttableBit region k) → IsLowestLookupBit (bit_and bits free) bit
    → IsLeastFreeLookupBit region passes bit
least_free region passes bits free bit tests frees low =
    let left : bit_at bits bit ≡ 1 = omega
    (arith, low.set, bit_at_and bits free bit, bit_at-lt bits bit, bit_at-lt free bit) in
    let right : bit_at free bit ≡ 1 = omega
    (arith, low.set, bit_at_and bits free bit, bit_at-lt bits bit, bit_at-lt free bit) in
    let is_free = (frees bit).0 right in record {
      free = is_free;
      passing = sym (tests bit is_free.bound) ∙ ap (λ n. n == 1) left;
      least = λ other other_free passed. elim (cases_lt other bit) [
        | inr after ↦ after
        | inl before ↦ let set : bit_at bits other ≡ 1 =
            eqb-true _ _ (tests other other_free.bound ∙ passed) in
            absurd (omega (
              arith,
              low.below other before,
              both_set bits free other set ((frees other).1 other_free),
            ))
      ];
    }

pub none_free : (region : WordValue) (passes : ℕ → Bool) (bits free : ℕ)
    → ((k : ℕ) → k < 104 → (bit_at bits k == 1) ≡ passes k)
    → ((k : ℕ) → (bit_at free k ≡ 1) ↔ IsCuttableBit region k) → bit_and bits free ≡ 0
    → LookupPassesNoFreeBit region passes
none_free region passes bits free tests frees none = λ bit is_free. elim (cases_Bool (passes bit)) [
  | inr fails ↦ fails
  | inl passing ↦
      let set : bit_at bits bit ≡ 1 = eqb-true _ _ (tests bit is_free.bound ∙ passing) in
      let zero_bit = ap (λ n. bit_at n bit) none ∙ bit_at-zero bit in
      absurd (omega (arith, zero_bit, both_set bits free bit set ((frees bit).1 is_free)))
]
