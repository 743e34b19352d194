-- Masks number by number.
use Rattle.std.proofs.Common.{[], ◌%◌, ◌&&◌, ◌+◌, ◌<◌, ◌==◌, ◌^◌, ◌||◌, ◌∙◌, ◌∷◌, ◌≡◌, ◌≢◌, ◌≤◌, Bool, List, ap, arith, bit_and, bit_or, bit_xor, eq-eqb, false, get_or, length, max, min, not, pow_pos, refl, suc, true, w64, zero, ℕ, rules}
use Rattle.std.proofs.lemmas.Bool.Decides.{nat_tests}
use Rattle.std.proofs.lemmas.Nat.{pow_below, or_lt}
use Rattle.std.proofs.lemmas.Nat.Bits.{bit_at_and, bit_at_or, bit_at-lt, bit_at-zero, bit_at-pow_same, bit_at-pow_other, bit_at_above, same_from_bits, same_from_bits_below, bit_at-trailing_zeros, bit_at_xor}
use Rattle.std.proofs.lemmas.List.FromFn.{get_or-range_with_len}
use Rattle.std.proofs.Math.Bool.{or-false}
use Rattle.base.specs.Exports.{SmallNumberMaskLaws, has, least_in_number_set, small_number_mask, number_set_where, only_if, switches}

-- ---- one switch of a mask

bit_or_test : (a b c : ℕ) → a < 2 → b < 2 → c ≡ max a b → (c == 1) ≡ ((a == 1) || (b == 1))
bit_or_test a b c a_fits b_fits e = grind (arith, nat_tests)

bit_and_test : (a b c : ℕ) → a < 2 → b < 2 → c ≡ min a b → (c == 1) ≡ ((a == 1) && (b == 1))
bit_and_test a b c a_fits b_fits e = grind (arith, nat_tests)

pub has-or : (a b k : ℕ) → has (bit_or a b) k ≡ (has a k || has b k)
unfolding has
has-or a b k = bit_or_test _ _ _ (bit_at-lt a k) (bit_at-lt b k) (bit_at_or a b k)

pub has-and : (a b k : ℕ) → has (bit_and a b) k ≡ (has a k && has b k)
unfolding has
has-and a b k = bit_and_test _ _ _ (bit_at-lt a k) (bit_at-lt b k) (bit_at_and a b k)

pub has-zero : (k : ℕ) → has 0 k ≡ false
unfolding has
has-zero k = ap (λ d. d == 1) (bit_at-zero k)

pub has-pow_same : (k : ℕ) → has (2 ^ k) k ≡ true
unfolding has
has-pow_same k = ap (λ d. d == 1) (bit_at-pow_same k)

pub has-pow_other : (k j : ℕ) → j ≢ k → has (2 ^ k) j ≡ false
unfolding has
has-pow_other k j apart = ap (λ d. d == 1) (bit_at-pow_other k j apart)

same_sum : (a b : ℕ) → a < 2 → b ≡ 0 → ((a + b) % 2 == 1) ≡ (a == 1)
same_sum a b fits e = grind (arith, nat_tests)

pub has-xor_other : (mask k j : ℕ) → j ≢ k → has (bit_xor mask (2 ^ k)) j ≡ has mask j
unfolding has
has-xor_other mask k j apart = search (rules, bit_at_xor, same_sum, bit_at-lt, bit_at-pow_other)

-- a mask of some switches is above 0
pub some_of : (mask : ℕ) → not (mask == 0) ≡ true → 0 < mask
some_of mask some = grind (arith, nat_tests)

pub has_above : (mask k : ℕ) → mask < 2 ^ 64 → 64 ≤ k → has mask k ≡ false
unfolding has
has_above mask k fits past = ap (λ d. d == 1) (bit_at_above mask 64 k fits past)

same_bit : (a b : ℕ) → a < 2 → b < 2 → (a == 1) ≡ (b == 1) → a ≡ b
same_bit a b a_fits b_fits e = grind (arith, nat_tests)

-- masks of the same switches are equal
pub same_masks : (a b : ℕ) → a < 2 ^ 64 → b < 2 ^ 64 → ((k : ℕ) → k < 64 → has a k ≡ has b k) →
    a ≡ b
unfolding has
same_masks a b a_fits b_fits h = search (rules, same_from_bits_below, same_bit, bit_at-lt)

pub has_only_same : (test : Bool) (k : ℕ) → has (only_if test k) k ≡ test
has_only_same test k = search (rules, has-pow_same, has-zero)

pub has_only_other : (test : Bool) (k j : ℕ) → j ≢ k → has (only_if test k) j ≡ false
has_only_other test k j apart = search (rules, has-pow_other, has-zero)

-- ---- masks of the places that pass

pub mask_where_below : {X : Type 0} (test : X → Bool) (k : ℕ) (xs : List X) (z : ℕ) → z < k →
    has (number_set_where test k xs) z ≡ false
unfolding number_set_where
mask_where_below test k [] z below = has-zero z
mask_where_below test k (x ∷ xs) z below = let apart : z ≢ k = omega arith in
    rw (has-or, has_only_other _ _ _ apart, mask_where_below test (k + 1) xs z (omega arith)) refl

pub mask_where_at : {X : Type 0} (test : X → Bool) (k : ℕ) (xs : List X) (d : X) (z j : ℕ)
    → z ≡ k + j → j < length xs → has (number_set_where test k xs) z ≡ test (get_or xs j d)
unfolding number_set_where
mask_where_at test k [] d z j e below = absurd (omega arith)
mask_where_at test k (x ∷ xs) d z zero e below = let same : z ≡ k = omega arith in
    rw (has-or, mask_where_below test (k + 1) xs z (omega arith), same, has_only_same) (or-false _)
mask_where_at test k (x ∷ xs) d z (suc j) e below = search
    (rules, has-or, has_only_other, mask_where_at test (k + 1) xs d z j (omega arith) (omega arith))

pub only_if_lt : (test : Bool) (k n : ℕ) → k < n → only_if test k < 2 ^ n
only_if_lt test k n below = search (rules, pow_below)

pub mask_where_lt : {X : Type 0} (test : X → Bool) (k : ℕ) (xs : List X) (n : ℕ) → k + length xs ≤ n
    → number_set_where test k xs < 2 ^ n
unfolding number_set_where
mask_where_lt test k [] n fits = pow_pos n
mask_where_lt test k (x ∷ xs) n fits = or_lt n _ _ (only_if_lt (test x) k n (omega arith))
    (mask_where_lt test (k + 1) xs n (omega arith))

-- ---- the least switch

zero_test : (d : ℕ) → d ≡ 0 → (d == 1) ≡ false
zero_test d e = grind (arith, nat_tests)

pub least_lt : (mask : ℕ) → 0 < mask → mask < 2 ^ 64 → least_in_number_set mask < 64
unfolding least_in_number_set
least_lt mask some fits = (bit_at-trailing_zeros w64 mask some fits).0

pub has_least : (mask : ℕ) → 0 < mask → mask < 2 ^ 64 → has mask (least_in_number_set mask) ≡ true
unfolding least_in_number_set has
has_least mask some fits = eq-eqb _ 1 (bit_at-trailing_zeros w64 mask some fits).1

pub least_below : (mask : ℕ) → 0 < mask → mask < 2 ^ 64 → (j : ℕ) → j < least_in_number_set mask →
    has mask j ≡ false
unfolding least_in_number_set has
least_below mask some fits j below =
    zero_test _ ((bit_at-trailing_zeros w64 mask some fits).2 j below)

-- masks with the same switches are equal, whatever their width
pub same_sets : (a b : ℕ) → ((k : ℕ) → has a k ≡ has b k) → a ≡ b
unfolding has
same_sets a b h = same_from_bits a b (λ k. same_bit _ _ (bit_at-lt a k) (bit_at-lt b k) (h k))

-- ---- masks of the numbers that pass

pub length-switches : length switches ≡ 64
unfolding switches
length-switches = refl

pub get_or-switches : (k : ℕ) → k < 64 → get_or switches k 0 ≡ k
unfolding switches
get_or-switches k below = get_or-range_with_len 0 64 k 0 below ∙ omega arith

pub has_mask : (test : ℕ → Bool) (k : ℕ) → k < 64 → has (small_number_mask test) k ≡ test k
unfolding small_number_mask
has_mask test k below = mask_where_at test 0 switches 0 k k (omega arith)
    (omega (arith, length-switches)) ∙ ap test (get_or-switches k below)

pub mask_of_lt : (test : ℕ → Bool) → small_number_mask test < 2 ^ 64
unfolding small_number_mask
mask_of_lt test = mask_where_lt test 0 switches 64 (omega (arith, length-switches))

pub has_mask_past : (test : ℕ → Bool) (k : ℕ) → 64 ≤ k → has (small_number_mask test) k ≡ false
has_mask_past test k past = has_above (small_number_mask test) k (mask_of_lt test) past

pub mask_of_is : (mask : ℕ) (test : ℕ → Bool) → mask < 2 ^ 64
    → ((k : ℕ) → k < 64 → has mask k ≡ test k) → mask ≡ small_number_mask test
mask_of_is mask test fits same = search (rules, same_masks, mask_of_lt, has_mask)

pub laws : SmallNumberMaskLaws
laws = record { small = mask_of_lt; bits = has_mask; past = has_above; unique = mask_of_is }
