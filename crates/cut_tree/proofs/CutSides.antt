-- Which halves of a region a word meets and covers, bit by bit.
use Rattle.std.proofs.Common.{◌%◌, ◌&&◌, ◌*◌, ◌+◌, ◌-◌, ◌<◌, ◌==◌, ◌^◌, ◌||◌, ◌∙◌, ◌∷◌, ◌≡◌, ◌≢◌, ◌≤◌, Bool, IsTrue, List, ap, arith, bit_and, bit_or, bit_xor, drop, false, inl, inr, length, max, min, not, suc, sym, true, zero, ℕ, rules}
use Rattle.base.proofs.Exports.{bit_at, bit_at-lt, bit_at-pow_other, bit_at-pow_same, bit_at-trailing_zeros, bit_at-zero, bit_at_and, bit_at_not, bit_at_or, bit_at_xor, both_ways, cases_Bool, cases_eq, false_from_ne_true, from_bool, nat_tests, pow_below, same_from_bits, trailing_zeros, w128, xor_lt}
use Rattle.ternary.specs.Exports.{IsWord, WordValue, word_admits, word_covers_of, word_fix_of, ternary_with_bit_freed, is_word_bit_fixed, word_meets}
use Rattle.ternary.proofs.TernaryCallerLemmas.{covers_decides, covers_half, meets_comm, meets_cover, meets_half, ternary_without_bit-other, ternary_without_bit-same}
use Rattle.policy_rules.specs.declared.rules.Rule.{Rule}
use Rattle.cut_tree.specs.Exports.{HaveCutSidesCounted, IsCutSideCounting, IsCuttableBit, IsNarrowInCutRegion, narrow, side_of_cut}
use Rattle.cut_tree.specs.declared.choice.CutSide.{CutSide}
use Rattle.cut_tree.proofs.CutNarrowing.{narrow_covered, narrow_more, narrow_apart, narrow_end}

-- ---- the halves that a word meets

high_digit : (mask value : ℕ) → mask < 2 → value < 2 → max value (1 - mask) ≡ from_bool
    (not (mask == 1) || (value == 1))
high_digit mask value m v = grind (arith, nat_tests)

low_digit : (mask value : ℕ) → mask < 2 → value ≤ mask
    → 1 - value ≡ from_bool (not (mask == 1) || (value == 0))
low_digit mask value m v = grind (arith, nat_tests)

pub met_high : (w : WordValue) (bit : ℕ) → w.mask < 2 ^ 104 → bit < 104
    → bit_at (bit_or w.value (2 ^ 128 - 1 - w.mask)) bit ≡ from_bool (word_admits w bit true)
unfolding word_admits is_word_bit_fixed
met_high w bit small within = bit_at_or w.value (2 ^ 128 - 1 - w.mask) bit
    ∙ ap (max (bit_at w.value bit)) (bit_at_not w128 w.mask bit (omega arith) (omega arith))
    ∙ high_digit (bit_at w.mask bit) (bit_at w.value bit) (bit_at-lt w.mask bit)
    (bit_at-lt w.value bit)

pub met_low : (w : WordValue) (bit : ℕ) → IsWord w → w.value < 2 ^ 104 → bit < 104
    → bit_at (2 ^ 128 - 1 - w.value) bit ≡ from_bool (word_admits w bit false)
unfolding word_admits is_word_bit_fixed
met_low w bit word small within =
    let both : min (bit_at w.value bit) (bit_at w.mask bit) ≡ bit_at w.value bit =
    sym (bit_at_and w.value w.mask bit) ∙ ap (λ n. bit_at n bit) word.within in
    (bit_at_not w128 w.value bit (omega arith) (omega arith))
    ∙ low_digit (bit_at w.mask bit) (bit_at w.value bit) (bit_at-lt w.mask bit) (omega arith)

-- ---- the halves that it covers

-- the bits that the word fixes and the region doesn't
abbrev pub beyond : WordValue → WordValue → ℕ
beyond word region = bit_xor word.mask region.mask

-- no bit but this one
abbrev pub IsOnly : ℕ → ℕ → Type 0
IsOnly bits k = (j : ℕ) → j ≢ k → bit_at bits j ≡ 0

same_digit : (a b : ℕ) → a < 2 → b < 2 → (b ≡ 1 → a ≡ 1) → (a ≡ 1 → b ≡ 1) → (a + b) % 2 ≡ 0
same_digit a b p q r s = grind (arith, nat_tests)

pub covers_only : (w r : WordValue) (k : ℕ) → IsTrue (word_covers_of r w)
    → IsTrue (word_covers_of (ternary_with_bit_freed w k) r) → IsOnly (beyond w r) k
unfolding ternary_with_bit_freed
covers_only w r k within covers = λ j other. let inner = (covers_decides r w).0 within j in
    let outer = (covers_decides (ternary_with_bit_freed w k) r).0 covers j in
    let fixed : bit_at w.mask j ≡ 1 → bit_at r.mask j ≡ 1 =
    λ e. (outer (ternary_without_bit-other w.mask k j other ∙ e)).0 in
    bit_at_xor w.mask r.mask j ∙ same_digit (bit_at w.mask j) (bit_at r.mask j) (bit_at-lt w.mask j)
    (bit_at-lt r.mask j) (λ e. (inner e).0) fixed

pub only_covers : (w r : WordValue) (k : ℕ) → IsTrue (word_covers_of r w) → IsOnly (beyond w r) k
    → IsTrue (word_covers_of (ternary_with_bit_freed w k) r)
unfolding ternary_with_bit_freed
only_covers w r k within only = (covers_decides (ternary_with_bit_freed w k) r).1 (λ j set.
    let other : j ≢ k = λ e. let lost : bit_at (ternary_with_bit_freed w k).mask j ≡ 0 =
    ap (bit_at (ternary_with_bit_freed w k).mask) e ∙ ternary_without_bit-same w.mask k in omega (arith, lost, set) in
    let m : bit_at w.mask j ≡ 1 = sym (ternary_without_bit-other w.mask k j other) ∙ set in
    let q : bit_at r.mask j ≡ 1 =
    omega (arith, m, sym (bit_at_xor w.mask r.mask j) ∙ only j other, bit_at-lt r.mask j) in
    (q, sym ((covers_decides r w).0 within j q).1 ∙ sym (ternary_without_bit-other w.value k j other)))

-- a word that fixes what the region does
pub covered_whole : (w r : WordValue) (k : ℕ) (one : Bool) (met : ℕ) → IsTrue (word_covers_of r w)
    → beyond w r ≡ 0 → bit_at met k ≡ from_bool (word_admits w k one)
    → bit_at met k ≡ from_bool (word_covers_of w (word_fix_of r k one))
covered_whole w r k one met within none admitted =
    search (rules, only_covers, bit_at-zero, covers_half)

-- a word that fixes one bit more
pub covered_one : (w r : WordValue) (t k : ℕ) (one : Bool) (met : ℕ) → IsTrue (word_covers_of r w)
    → beyond w r ≡ 2 ^ t → bit_at met k ≡ from_bool (word_admits w k one)
    → bit_at (bit_and (beyond w r) met) k ≡ from_bool (word_covers_of w (word_fix_of r k one))
covered_one w r t k one met within is admitted =
    let bits = bit_at_and (beyond w r) met k ∙ ap (λ n. min (bit_at n k) (bit_at met k)) is in
    let half = covers_half w r k one in
    elim (cases_eq k t) [
      | inl same ↦ let covers = only_covers w r k within
          (λ j other. ap (λ n. bit_at n j) is ∙ bit_at-pow_other t j (λ e. other (e ∙ sym same))) in
          let least : min (bit_at (2 ^ t) k) (bit_at met k) ≡ bit_at met k =
          omega (arith, ap (bit_at (2 ^ t)) same ∙ bit_at-pow_same t, bit_at-lt met k) in
          bits ∙ least ∙ admitted ∙ sym (ap from_bool (half ∙ ap (λ t. t && word_admits w k one) covers))
      | inr other ↦ let lost : word_covers_of (ternary_with_bit_freed w k) r ≡ false =
          false_from_ne_true _ (λ covers. omega (
            arith,
            sym (ap (λ n. bit_at n t) is) ∙ covers_only w r k within covers t (λ e. other (sym e)),
            bit_at-pow_same t,
          )) in
          bits ∙ (omega (arith, bit_at-pow_other t k other))
          ∙ sym (ap from_bool (half ∙ ap (λ t. t && word_admits w k one) lost))
    ]

-- a word that fixes more than one
pub covered_none : (w r : WordValue) (k : ℕ) (one : Bool) → IsTrue (word_covers_of r w) → 0 < beyond w r
    → beyond w r < 2 ^ 128 → (beyond w r ≡ 2 ^ trailing_zeros w128 (beyond w r) → ⊥)
    → bit_at 0 k ≡ from_bool (word_covers_of w (word_fix_of r k one))
covered_none w r k one within some small many =
    let t = trailing_zeros w128 (beyond w r) in
    let lowest = bit_at-trailing_zeros w128 (beyond w r) some small in
    let lost : word_covers_of (ternary_with_bit_freed w k) r ≡ false = false_from_ne_true _ (λ covers.
    let only = covers_only w r k within covers in
    let same : t ≡ k = elim (cases_eq t k)
    [ inl e ↦ e | inr other ↦ absurd (omega (arith, only t other, lowest.1)) ] in
    many (same_from_bits _ _ (λ j. elim (cases_eq j t) [
      | inl e ↦ ap (bit_at (beyond w r)) e ∙ lowest.1
          ∙ sym (ap (bit_at (2 ^ t)) e ∙ bit_at-pow_same t)
      | inr other ↦ only j (λ e. other (e ∙ sym same)) ∙ sym (bit_at-pow_other t j other)
    ]))) in
    bit_at-zero k ∙ sym (ap from_bool (covers_half w r k one ∙ ap (λ t. t && word_admits w k one) lost))

from_bool-zero : (b : Bool) → from_bool b ≡ 0 → b ≡ false
from_bool-zero b is = search rules

pub covers_no_half : (w r : WordValue) (k : ℕ) (one : Bool) → IsTrue (word_covers_of r w)
    → 0 < beyond w r → beyond w r < 2 ^ 128
    → (beyond w r ≡ 2 ^ trailing_zeros w128 (beyond w r) → ⊥) → word_covers_of w (word_fix_of r k one) ≡ false
covers_no_half w r k one within some small many = from_bool-zero (word_covers_of w (word_fix_of r k one))
    (sym (covered_none w r k one within some small many) ∙ bit_at-zero k)

pub one_shifted : (t : ℕ) → t < 128 → 1 * 2 ^ t % 2 ^ 128 ≡ 2 ^ t
one_shifted t within = omega (arith, pow_below t 128 within)

pub beyond_small : (w r : WordValue) → w.mask < 2 ^ 104 → r.mask < 2 ^ 104 → beyond w r < 2 ^ 128
beyond_small w r a b = omega (arith, xor_lt 104 w.mask r.mask a b)

pub lowest_beyond : (n : ℕ) → (n ≡ 0 → ⊥) → n < 2 ^ 128 → trailing_zeros w128 n < 128
lowest_beyond n some small = (bit_at-trailing_zeros w128 n (omega arith) small).0

-- ---- one more rule on a side

-- a bit of those that are still open and not covered
pub still_open : (a b bit : ℕ) → b < 2 ^ 128 → bit < 104 → bit_at (bit_and a (2 ^ 128 - 1 - b)) bit
    ≡ min (bit_at a bit) (1 - bit_at b bit)
still_open a b bit small within =
    cc (bit_at_and a (2 ^ 128 - 1 - b) bit, bit_at_not w128 b bit small (omega arith))

-- what a rule adds to the count of a half, and what it leaves to come
side_sum : (was met covered rest all : ℕ) → was < 2 → met < 2 → met + (1 - covered) * rest ≡ all
    → min was met + min was (1 - covered) * rest ≡ was * all
side_sum zero met covered rest all digit small is = search rules
side_sum (suc zero) met covered rest all digit small is = search rules
side_sum (suc (suc was)) met covered rest all digit small is = absurd (omega arith)

from_bool-lt : (b : Bool) → from_bool b < 2
from_bool-lt b = search rules

-- a half keeps the rule where this meets it, and those after it where it does not cover it
kept_count : (half : WordValue) (rule : Rule) (rules : List Rule)
    → from_bool (word_meets rule.word half) + (1 - from_bool (word_covers_of rule.word half)) * length
    (narrow rules half) ≡ length (narrow (rule ∷ rules) half)
kept_count half rule rules = elim (cases_Bool (word_meets rule.word half)) [
  | inl meet ↦ elim (cases_Bool (word_covers_of rule.word half)) [
    | inl covers ↦ rw (meet, covers, narrow_covered half rule rules meet covers) (omega arith)
    | inr past ↦ rw (meet, past, narrow_more half rule rules meet past) (omega arith)
  ]
  | inr apart ↦ let past = false_from_ne_true _ (λ covers. both_ways _ apart
      (meets_comm rule.word half ∙ meets_cover rule.word half covers)) in
      rw (apart, past, narrow_apart half rule rules apart) (omega arith)
]

-- what one more rule does to a side, at one bit
pub side_step : (region : WordValue) (rule : Rule) (rules : List Rule) (bit : ℕ) (one : Bool)
    (was met covered : ℕ) → IsTrue (word_covers_of region rule.word) → IsCuttableBit region bit → was < 2
    → met ≡ from_bool (word_admits rule.word bit one)
    → covered ≡ from_bool (word_covers_of rule.word (word_fix_of region bit one))
    → min was met + min was (1 - covered) * length (side_of_cut rules region bit one) ≡ was * length
    (side_of_cut (rule ∷ rules) region bit one)
side_step region rule rules bit one was met covered within free digit is_met is_covered =
    let half = word_fix_of region bit one in
    let meet : word_meets rule.word half ≡ word_admits rule.word bit one = meets_half rule.word region bit one
    free.free ∙ ap (λ t. t && word_admits rule.word bit one) (meets_cover region rule.word within) in
    side_sum was met covered _ _ digit (rw is_met (from_bool-lt _))
    (rw ((is_met ∙ ap from_bool (sym meet)), is_covered) (kept_count half rule rules))

-- the same for a rule that covers no half
pub met_step : (region : WordValue) (rule : Rule) (rules : List Rule) (bit : ℕ) (one : Bool)
    (left met : ℕ) → IsNarrowInCutRegion region rule → IsCuttableBit region bit
    → bit_at met bit ≡ from_bool (word_admits rule.word bit one)
    → bit_at (bit_and left met) bit + bit_at left bit * length (side_of_cut rules region bit one)
    ≡ bit_at left bit * length (side_of_cut (rule ∷ rules) region bit one)
met_step region rule rules bit one left met fit free is_met =
    let still : min (bit_at left bit) (1 - 0) ≡ bit_at left bit = omega
    (arith, bit_at-lt left bit) in
    let step = side_step region rule rules bit one (bit_at left bit) (bit_at met bit) 0 fit.within
    free (bit_at-lt left bit) is_met (sym (ap from_bool (fit.covers bit one free))) in
    rw (bit_at_and left met bit) (rw still at step)

-- ---- a side at the end

-- a side that has seen each rule has counted each half
pub counted_all : (side : CutSide) (one : Bool) (rules : List Rule) (region : WordValue) (place : ℕ)
    → IsCutSideCounting side one rules region place → length rules ≤ place
    → HaveCutSidesCounted side one rules region
counted_all side one rules region place counting past = λ bit free.
    let half = word_fix_of region bit side.one in
    let nothing : bit_at side.«open» bit * length (narrow (drop place rules) half)
    ≡ bit_at side.«open» bit * 0 =
    ap (λ n. bit_at side.«open» bit * n) (ap length (narrow_end rules place half past)) in
    omega (arith, counting.rest bit free, nothing)
