-- Numbers bit by bit: masks, one bit set or cleared, and equality.
use Rattle.std.proofs.Common.{◌%◌, ◌*◌, ◌+◌, ◌-◌, ◌<◌, ◌^◌, ◌∙◌, ◌≡◌, ◌≢◌, ◌≤◌, ◌⊎◌, Bool, ap, arith, bit_and, bit_or, bit_xor, false, inl, inr, max, min, mod-eq_of_lt, sym, true, ℕ, rules}
use Rattle.std.specs.Int.{bit_at, from_bool, w128}
use Rattle.std.specs.Int.Bits.{xor_add_and, and_le_l, and_self, and_comm, or_comm, or_lt}
use Rattle.std.proofs.lemmas.Nat.{and_assoc, pow_below}
use Rattle.std.proofs.lemmas.Nat.Bits.{bit_at_and, bit_at_or, bit_at_xor, bit_at-lt, bit_at-zero, bit_at-pow_same, bit_at-pow_other, bit_at_above, bit_at_clear_same, bit_at_clear_other, and_pow, same_from_bits, same_from_bits_below}
use Rattle.std.proofs.lemmas.Bool.{cases_eq}
use Rattle.ternary.specs.Exports.{ternary_with_bit, ternary_without_bit}

-- ---- one digit

zero_or_one : (d : ℕ) → d < 2 → (d ≡ 0) ⊎ (d ≡ 1)
zero_or_one d lt = grind arith

-- a digit is 0 or 1
pub digit_cases : (n i : ℕ) → (bit_at n i ≡ 0) ⊎ (bit_at n i ≡ 1)
digit_cases n i = zero_or_one (bit_at n i) (bit_at-lt n i)

min_same : (x y m : ℕ) → m < 2 → x < 2 → y < 2 → (m ≡ 1 → x ≡ y) → min x m ≡ min y m
min_same x y m m_fits x_fits y_fits h = search (rules, zero_or_one)

same_of_min : (x y m : ℕ) → x < 2 → y < 2 → min x m ≡ min y m → m ≡ 1 → x ≡ y
same_of_min x y m x_fits y_fits e set = omega arith

-- ---- masks

-- x and y under one mask are equal exactly if they agree on its bits
pub masked : (x y m : ℕ) → ((k : ℕ) → bit_at m k ≡ 1 → bit_at x k ≡ bit_at y k)
    → bit_and x m ≡ bit_and y m
masked x y m h = search (rules, same_from_bits, bit_at_and, min_same, bit_at-lt)

pub unmasked : (x y m : ℕ) → bit_and x m ≡ bit_and y m → (k : ℕ) → bit_at m k ≡ 1
    → bit_at x k ≡ bit_at y k
unmasked x y m e k = same_of_min _ _ _ (bit_at-lt x k) (bit_at-lt y k)
    (sym (bit_at_and x m k) ∙ ap (λ n. bit_at n k) e ∙ bit_at_and y m k)

-- m lies in n exactly if n has each bit of m
pub part : (m n : ℕ) → ((k : ℕ) → bit_at m k ≡ 1 → bit_at n k ≡ 1) → bit_and m n ≡ m
part m n h = same_from_bits _ _ (λ k. bit_at_and m n k ∙ grind (arith, bit_at-lt, h))

pub of_part : (m n : ℕ) → bit_and m n ≡ m → (k : ℕ) → bit_at m k ≡ 1 → bit_at n k ≡ 1
of_part m n e k = search (rules, bit_at-lt, bit_at_and)

-- a bit of both
pub both_set : (m n k : ℕ) → bit_at m k ≡ 1 → bit_at n k ≡ 1 → bit_at (bit_and m n) k ≡ 1
both_set m n k p q = bit_at_and m n k ∙ omega (arith, p, q)

pub left_set : (m n k : ℕ) → bit_at (bit_and m n) k ≡ 1 → bit_at m k ≡ 1
left_set m n k h = search (rules, bit_at-lt, bit_at_and)

pub right_set : (m n k : ℕ) → bit_at (bit_and m n) k ≡ 1 → bit_at n k ≡ 1
right_set m n k h = search (rules, bit_at-lt, bit_at_and)

-- ---- one bit set to 0, or to 1 or 0

cleared_by_xor : (n k : ℕ) → ternary_without_bit n k ≡ bit_xor n (bit_and n (2 ^ k))
cleared_by_xor n k =
    let p = bit_and n (2 ^ k) in
    let inside = sym (and_assoc (2 ^ k) n n) ∙ ap (λ x. bit_and x (2 ^ k)) (and_self n) in
    omega (arith, and_pow n k, xor_add_and n p, inside, and_le_l n (2 ^ k))

cleared : (n k i : ℕ) → bit_at (ternary_without_bit n k) i
    ≡ (bit_at n i + min (bit_at n i) (bit_at (2 ^ k) i)) % 2
cleared n k i = ap (λ x. bit_at x i) (cleared_by_xor n k) ∙ bit_at_xor n _ i
    ∙ ap (λ d. (bit_at n i + d) % 2) (bit_at_and n (2 ^ k) i)

pub ternary_without_bit-same : (n k : ℕ) → bit_at (ternary_without_bit n k) k ≡ 0
ternary_without_bit-same n k = cleared n k k ∙ twice _ _ (bit_at-lt n k) (bit_at-pow_same k) where
  twice : (d p : ℕ) → d < 2 → p ≡ 1 → (d + min d p) % 2 ≡ 0
  twice d p fits e = omega arith

pub ternary_without_bit-other : (n k i : ℕ) → i ≢ k → bit_at (ternary_without_bit n k) i ≡ bit_at n i
ternary_without_bit-other n k i apart = cleared n k i
    ∙ once _ _ (bit_at-lt n i) (bit_at-pow_other k i apart)
  where
    once : (d p : ℕ) → d < 2 → p ≡ 0 → (d + min d p) % 2 ≡ d
    once d p fits e = omega arith

pub ternary_without_bit-le : (n k : ℕ) → ternary_without_bit n k ≤ n
ternary_without_bit-le n k = omega arith

placed_same : (k : ℕ) (one : Bool) → bit_at (from_bool one * 2 ^ k) k ≡ from_bool one
placed_same k one = search (rules, bit_at-pow_same, false, bit_at-zero)

placed_other : (k : ℕ) (one : Bool) (i : ℕ) → i ≢ k → bit_at (from_bool one * 2 ^ k) i ≡ 0
placed_other k true i apart = let e : 1 * 2 ^ k ≡ 2 ^ k = omega arith in ap (λ x. bit_at x i) e
    ∙ bit_at-pow_other k i apart
placed_other k false i apart = search (rules, bit_at-zero)

pub with_bit-same : (n k : ℕ) (one : Bool) → bit_at (ternary_with_bit n k one) k ≡ from_bool one
with_bit-same n k one = search (rules, bit_at_or, ternary_without_bit-same, placed_same)

pub with_bit-other : (n k : ℕ) (one : Bool) (i : ℕ) → i ≢ k → bit_at (ternary_with_bit n k one) i ≡ bit_at n
    i
with_bit-other n k one i apart = search (rules, bit_at_or, ternary_without_bit-other, placed_other)

placed_lt : (w k : ℕ) (one : Bool) → k < w → from_bool one * 2 ^ k < 2 ^ w
placed_lt w k one within = search (rules, pow_below)

pub with_bit-lt : (w n k : ℕ) (one : Bool) → n < 2 ^ w → k < w → ternary_with_bit n k one < 2 ^ w
with_bit-lt w n k one fits within = search (rules, or_lt, ternary_without_bit-le, placed_lt)

-- the bit k beside those of n
pub or_pow-same : (n k : ℕ) → bit_at (bit_or n (2 ^ k)) k ≡ 1
or_pow-same n k = search (rules, bit_at_or, bit_at-lt, bit_at-pow_same)

pub or_pow-other : (n k i : ℕ) → i ≢ k → bit_at (bit_or n (2 ^ k)) i ≡ bit_at n i
or_pow-other n k i apart = search (rules, bit_at_or, bit_at-pow_other)

-- ---- sums of bits, and single places

pub or_assoc : (a b c : ℕ) → bit_or (bit_or a b) c ≡ bit_or a (bit_or b c)
or_assoc a b c = same_from_bits _ _ (λ k.
    bit_at_or (bit_or a b) c k ∙ ap (λ d. max d (bit_at c k)) (bit_at_or a b k) ∙ larger _ _ _
    ∙ sym (bit_at_or a (bit_or b c) k ∙ ap (max (bit_at a k)) (bit_at_or b c k)))
  where
    larger : (x y z : ℕ) → max (max x y) z ≡ max x (max y z)
    larger x y z = omega arith

-- m adds nothing to n
pub absorbed : (m n : ℕ) → ((k : ℕ) → bit_at m k ≡ 1 → bit_at n k ≡ 1) → bit_or m n ≡ n
absorbed m n h = same_from_bits _ _ (λ k. bit_at_or m n k ∙ grind (arith, bit_at-lt, h))

-- numbers that have the same bits set are equal
pub same_set : (m n : ℕ) → ((k : ℕ) → bit_at m k ≡ 1 → bit_at n k ≡ 1)
    → ((k : ℕ) → bit_at n k ≡ 1 → bit_at m k ≡ 1) → m ≡ n
same_set m n there back = sym (part m n there) ∙ and_comm m n ∙ part n m back

-- a bit that is set is within the width
pub set_below : (w n k : ℕ) → n < 2 ^ w → bit_at n k ≡ 1 → k < w
set_below w n k fits set = search (rules, bit_at_above)

-- a bit that is 0 is not set
pub not_set : (n k : ℕ) → bit_at n k ≡ 0 → bit_at n k ≡ 1 → ⊥
not_set n k zero_bit one_bit = omega (arith, zero_bit, one_bit)

-- a fact of the place k and of each other place is a fact of all
pub by_place : (k : ℕ) (P : ℕ → Type 0) → P k → ((j : ℕ) → j ≢ k → P j) → (j : ℕ) → P j
by_place k P here others j = elim (cases_eq j k) [ inl e ↦ rw e here | inr apart ↦ others j apart ]

-- ---- the bits x of a mask's digit m beside the bits y of a mask's digit n

left_of_both : (x y m n : ℕ) → x < 2 → y < 2 → n < 2 → m ≡ 1 → (n ≡ 1 → x ≡ y)
    → max (min x m) (min y n) ≡ x
left_of_both x y m n x_fits y_fits n_fits set agree = search (rules, zero_or_one)

right_of_both : (x y m n : ℕ) → x < 2 → y < 2 → m < 2 → n ≡ 1 → (m ≡ 1 → x ≡ y)
    → max (min x m) (min y n) ≡ y
right_of_both x y m n x_fits y_fits m_fits set agree = search (rules, zero_or_one)

-- the masked numbers a and b, added bit by bit, have the bits of a on the mask of a, and those of b
-- on that of b
masked_sum : (a m b n k : ℕ) → bit_at (bit_or (bit_and a m) (bit_and b n)) k ≡ max
    (min (bit_at a k) (bit_at m k)) (min (bit_at b k) (bit_at n k))
masked_sum a m b n k = search (rules, bit_at_or, bit_at_and)

pub masked_sum-left : (a m b n k : ℕ) → bit_at m k ≡ 1 → (bit_at n k ≡ 1 → bit_at a k ≡ bit_at b k)
    → bit_at (bit_or (bit_and a m) (bit_and b n)) k ≡ bit_at a k
masked_sum-left a m b n k set agree = search (rules, masked_sum, left_of_both, bit_at-lt)

pub masked_sum-right : (a m b n k : ℕ) → bit_at n k ≡ 1 → (bit_at m k ≡ 1 → bit_at a k ≡ bit_at b k)
    → bit_at (bit_or (bit_and a m) (bit_and b n)) k ≡ bit_at b k
masked_sum-right a m b n k set agree = search (rules, masked_sum, right_of_both, bit_at-lt)

-- a bit of one of two numbers, and of their sum bit by bit
pub or_left : (m n k : ℕ) → bit_at m k ≡ 1 → bit_at (bit_or m n) k ≡ 1
or_left m n k set = search (rules, bit_at_or, bit_at-lt)

pub or_right : (m n k : ℕ) → bit_at n k ≡ 1 → bit_at (bit_or m n) k ≡ 1
or_right m n k set = ap (λ x. bit_at x k) (or_comm m n) ∙ or_left n m k set

pub or_from : (m n k : ℕ) → bit_at (bit_or m n) k ≡ 1 → (bit_at m k ≡ 1) ⊎ (bit_at n k ≡ 1)
or_from m n k set = search (rules, digit_cases, bit_at_or)

-- ---- what shifts compute at 128 bits

-- `u128::from(one) << k`
pub shifted : (k : ℕ) (one : Bool) → k < 104 → from_bool one * 2 ^ k % 2 ^ 128 ≡ from_bool
    one * 2 ^ k
shifted k one within = mod-eq_of_lt (placed_lt 128 k one (omega arith))

-- `1 << k`
pub shifted_one : (k : ℕ) → k < 104 → 1 * 2 ^ k % 2 ^ 128 ≡ 2 ^ k
shifted_one k within = let one : 1 * 2 ^ k ≡ 2 ^ k = omega arith in shifted k true within ∙ one

-- `n & !(1 << k)`
pub masked_out : (n k : ℕ) → n < 2 ^ 104 → k < 104 → bit_and n (2 ^ 128 - 1 - 1 * 2 ^ k % 2 ^ 128)
    ≡ ternary_without_bit n k
masked_out n k fits within =
    let inside : k < 128 = omega arith in
    let wide : n < 2 ^ 128 = omega arith in
    same_from_bits_below 128 _ _ (omega (arith, and_le_l n (2 ^ 128 - 1 - 1 * 2 ^ k % 2 ^ 128)))
    (omega (arith, ternary_without_bit-le n k))
    (by_place k (λ j. j < 128 → bit_at (bit_and n (2 ^ 128 - 1 - 1 * 2 ^ k % 2 ^ 128)) j
    ≡ bit_at (ternary_without_bit n k) j) (λ _. bit_at_clear_same w128 n k inside
    ∙ sym (ternary_without_bit-same n k)) (λ j away low. bit_at_clear_other w128 n k inside j low away
    ∙ sym (ternary_without_bit-other n k j away)))

-- a bit that is not set is not there to be cleared
pub ternary_without_bit-unset : (n k : ℕ) → (bit_at n k ≡ 1 → ⊥) → ternary_without_bit n k ≡ n
ternary_without_bit-unset n k unset = search (rules, digit_cases)
