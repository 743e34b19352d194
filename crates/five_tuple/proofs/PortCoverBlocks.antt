-- `port_range_cover_of` gives the blocks that `IsTuplePortCover` describes, and the code finds
-- their sizes.
use Rattle.std.proofs.Common.{[], ◌%◌, ◌*◌, ◌+◌, ◌-◌, ◌<◌, ◌^◌, ◌∙◌, ◌∷◌, ◌≡◌, ◌≤◌, Bool, List, ap, arith, cond, eq-eqb, eqb-true, inl, inr, le-leb, le-ltb, leb-true, length, lt-ltb, min, pow-suc, pow_pos, refl, subst, suc, true, w32, zero, ℕ, rules}
use Rattle.std.specs.Int.{bit_at, trailing_zeros}
use Rattle.std.proofs.Math.Nat.{mod-one, pow-le-pow_right}
use Rattle.std.proofs.lemmas.Bool.{cases_lt}
use Rattle.std.proofs.lemmas.Nat.{mod-pow-add}
use Rattle.std.proofs.lemmas.Nat.Bits.{bit_at-trailing_zeros}
use lib.Count.{count_trailing_zeros}
use Rattle.five_tuple.specs.Exports.{TuplePortBlock, IsAlignedTuplePortBlock, IsTuplePortCover, IsPortRangeCover, IsLargestTuplePortBlock, IsPortRange, PortRangeValue, tuple_port_blocks_from, port_range_cover_of, tuple_port_block_fits_at, largest_tuple_port_block_exponent}
use Rattle.five_tuple.proofs.PortCovers.{exponent_small, aligned_down, exact, disjoint, ascending, masked, few, same_cover}

-- ---- the function and the relation

-- the largest of the blocks up to an exponent
record IsLargestUpTo (k first high exponent : ℕ) : Type 0 where
  block : IsAlignedTuplePortBlock first high exponent
  largest : (other : ℕ) → other ≤ k → IsAlignedTuplePortBlock first high other → other ≤ exponent

block_from : (first high e : ℕ) → tuple_port_block_fits_at first high e ≡ true → IsAlignedTuplePortBlock first high e
block_from first high e h = search (rules, eqb-true, leb-true)

block_test : (first high e : ℕ) → IsAlignedTuplePortBlock first high e → tuple_port_block_fits_at first high e ≡ true
block_test first high e b = search (rules, eq-eqb, le-leb)

larger : (k first high e : ℕ) (b : Bool) → tuple_port_block_fits_at first high (suc k) ≡ b
    → IsLargestUpTo k first high e → IsLargestUpTo (suc k) first high (cond b (suc k) e)
larger k first high e b is l = search (rules, block_test)

largest_is : (k first high : ℕ) → first ≤ high
    → IsLargestUpTo k first high (largest_tuple_port_block_exponent k first high)
largest_is zero first high h = search (rules, mod-one)
largest_is (suc k) first high h = search (rules, largest_is k first high h)

largest_of_all : (first high : ℕ) → first ≤ high → high < 2 ^ 16
    → IsLargestTuplePortBlock first high (largest_tuple_port_block_exponent 16 first high)
largest_of_all first high h bound = let l = largest_is 16 first high h in record {
  block = l.block;
  largest = λ other block. l.largest other (exponent_small first high other block bound) block;
}

covers_from : (most low high : ℕ) → high < 2 ^ 16 → high + 1 ≤ low + most
    → IsTuplePortCover low high (tuple_port_blocks_from most low high)
covers_from zero low high bound enough = omega arith
covers_from (suc most) low high bound enough = let e = largest_tuple_port_block_exponent 16 low high in
    elim (cases_lt high low) [
      | inl past ↦ rw (lt-ltb high low past) past
      | inr within ↦ rw (le-ltb high low within) (
        e,
        largest_of_all low high within bound,
        refl,
        covers_from most (low + 2 ^ e) high bound (omega (arith, pow_pos)),
      )
    ]

-- the blocks of a range are its cover
is_cover : (range : PortRangeValue) → range.high < 2 ^ 16
    → IsTuplePortCover range.low range.high (port_range_cover_of range)
unfolding port_range_cover_of
is_cover range bound = search (rules, covers_from)

pub greedy : (range : PortRangeValue) → IsPortRange range
    → IsTuplePortCover range.low range.high (port_range_cover_of range)
greedy range sound = is_cover range sound.bound

pub only : (range : PortRangeValue) (blocks : List TuplePortBlock) → IsPortRange range
    → IsTuplePortCover range.low range.high blocks → blocks ≡ port_range_cover_of range
only range blocks sound c = same_cover range.low range.high blocks (port_range_cover_of range) c
    (greedy range sound)

some_block : (low high : ℕ) (blocks : List TuplePortBlock) → IsTuplePortCover low high blocks → low ≤ high
    → 0 < length blocks
some_block low high [] c h = absurd (omega arith)
some_block low high (b ∷ bs) c h = omega arith

pub is_cover_of : (range : PortRangeValue) → IsPortRange range → IsPortRangeCover range (port_range_cover_of range)
is_cover_of range sound = let c = greedy range sound in record {
  exact = exact range.low range.high (port_range_cover_of range) c sound.bound;
  disjoint = disjoint range.low range.high (port_range_cover_of range) c sound.bound;
  ascending = ascending range.low range.high (port_range_cover_of range) c;
  masked = masked range.low range.high (port_range_cover_of range) c sound.bound;
  some = some_block range.low range.high (port_range_cover_of range) c sound.ordered;
  few = few range.low range.high (port_range_cover_of range) c sound.bound;
}

-- ---- one block after another

pub cover_of-past : (low high : ℕ) → high < low → port_range_cover_of (record { low = low; high = high }) ≡ []
unfolding port_range_cover_of
cover_of-past low high past = search rules

pub cover_of-step : (low high e size : ℕ) → IsLargestTuplePortBlock low high e → size ≡ 2 ^ e → high < 2 ^ 16
    → port_range_cover_of (record { low = low; high = high }) ≡ (low, 2 ^ 16 - size) ∷ port_range_cover_of
    (record { low = low + size; high = high })
cover_of-step low high e size l is bound =
    let rest = is_cover (record { low = low + size; high = high }) bound in
    let head = ap {B = TuplePortBlock} (λ s. (low, 2 ^ 16 - s)) is in
    let tail = subst (λ s. IsTuplePortCover (low + s) high
    (port_range_cover_of (record { low = low + size; high = high }))) is rest in
    same_cover low high _ _ (is_cover (record { low = low; high = high }) bound) (e, l, head, tail)

-- ---- the size of a block

low_zeros : (n e : ℕ) → ((i : ℕ) → i < e → bit_at n i ≡ 0) → n % 2 ^ e ≡ 0
low_zeros n zero none = mod-one n
low_zeros n (suc e) none =
    let width : suc e ≡ 1 + e = omega arith in
    let split = ap (λ k. n % 2 ^ k) width ∙ mod-pow-add n 1 e in
    let top = ap (λ d. d * 2 ^ e) (none e (omega arith)) in
    omega (arith, split, top, low_zeros n e (λ i less. none i (omega arith)))

bit_of_aligned : (n e : ℕ) → n % 2 ^ suc e ≡ 0 → bit_at n e ≡ 1 → ⊥
bit_of_aligned n e aligned set =
    let width : suc e ≡ 1 + e = omega arith in
    let top = ap (λ d. d * 2 ^ e) set in
    omega (arith, ap (λ k. n % 2 ^ k) width ∙ mod-pow-add n 1 e, top, pow_pos e)

-- at most so many of the low bits are 0, and so the block is at most so large
largest_of_two : (first high zeros log e : ℕ) → first % 2 ^ zeros ≡ 0
    → ((other : ℕ) → IsAlignedTuplePortBlock first high other → other ≤ zeros) → 2 ^ log ≤ high + 1 - first
    → high + 1 - first < 2 * 2 ^ log → e ≡ min zeros log → IsLargestTuplePortBlock first high e
largest_of_two first high zeros log e aligned most fits next is =
    let smaller : 2 ^ e ≤ 2 ^ log = pow-le-pow_right (omega arith) {i = e} {j = log}
    (omega arith) in record {
      block = record {
        aligned = aligned_down first e zeros (omega arith) aligned;
        fits = omega (arith, pow_pos log);
      };
      largest = λ other block. omega (arith, most other block, below other block);
    }
  where
    below : (other : ℕ) → IsAlignedTuplePortBlock first high other → other ≤ log
    below other block = elim (cases_lt log other) [
      | inl more ↦ let p : 2 ^ suc log ≤ 2 ^ other =
          pow-le-pow_right (omega arith) {i = suc log} {j = other} (omega arith) in
          absurd (omega (arith, block.fits, pow-suc 2 log))
      | inr less ↦ less
    ]

-- a number is aligned no further than its lowest 1
below_lowest : (n zeros other : ℕ) → bit_at n zeros ≡ 1 → n % 2 ^ other ≡ 0 → other ≤ zeros
below_lowest n zeros other set aligned = elim (cases_lt zeros other) [
  | inl more ↦ absurd (bit_of_aligned n zeros (aligned_down n (suc zeros) other more aligned) set)
  | inr less ↦ less
]

-- what the code computes
pub largest_from_code : (first high log e : ℕ) → first ≤ high → high < 2 ^ 16
    → 2 ^ log ≤ high + 1 - first → high + 1 - first < 2 * 2 ^ log
    → e ≡ min (trailing_zeros w32 first) log → IsLargestTuplePortBlock first high e
unfolding count_trailing_zeros
largest_from_code first high log e within bound fits next is = elim (cases_lt 0 first) [
  | inr zero_port ↦ let none : first ≡ 0 = omega arith in
      let all : trailing_zeros w32 first ≡ 32 = ap (trailing_zeros w32) none in
      let aligned : first % 2 ^ 32 ≡ 0 = omega arith in
      largest_of_two first high 32 log e aligned
      (λ other block. omega (arith, exponent_small first high other block bound)) fits next
      (is ∙ ap (λ z. min z log) all)
  | inl some ↦ let zeros = trailing_zeros w32 first in
      let lowest = bit_at-trailing_zeros w32 first some (omega arith) in
      largest_of_two first high zeros log e (low_zeros first zeros lowest.2)
      (λ other block. below_lowest first zeros other lowest.1 block.aligned) fits next is
]
