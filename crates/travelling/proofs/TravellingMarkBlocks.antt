-- The marks of blocks: which masks have a bit.
use Rattle.std.proofs.Common.{[], ◌%◌, ◌*◌, ◌+◌, ◌-◌, ◌/◌, ◌<◌, ◌==◌, ◌^◌, ◌∙◌, ◌≡◌, ◌≤◌, ◌⊎◌, Bool, List, ap, arith, eqb-true, false, inl, inr, length, not, refl, sym, true, ℕ}
use Rattle.base.proofs.Exports.{cases_lt, get_or_past, has-zero, has_least, least_below, least_lt, some_of}
use Rattle.base.specs.Exports.{has, least_in_number_set}
use Rattle.travelling.specs.SwitchIndex.{AreTravellerMarkLevels, AreTravellerBlockMarks, IsLeastTravellerMarked, IsNoTravellerMarked, has_traveller_marks, is_traveller_marked, traveller_mask_at}

pub no_levels : AreTravellerMarkLevels [] [] []
no_levels = record { low = no_blocks; high = no_blocks } where
  no_blocks : AreTravellerBlockMarks [] []
  no_blocks = record {
    marks = λ block s below. has-zero (block % 64);
    room = λ i few. absurd (omega (arith, few));
  }

-- ---- the next mark

zero_of : (mask : ℕ) → not (mask == 0) ≡ false → mask ≡ 0
zero_of mask e = eqb-true mask 0 (by_test (mask == 0) e) where
  by_test : (b : Bool) → not b ≡ false → b ≡ true
  by_test true e = refl
  by_test false e = absurd (let clash : true ≡ false = e in cc)

module _ (masks blocks : List ℕ) (s from : ℕ) (below : s < 64) (are : AreTravellerBlockMarks masks blocks)
    (none : IsNoTravellerMarked masks s from ((from / 64 + 1) * 64)) where
  unmarked : (i : ℕ) → is_traveller_marked blocks (i / 64) s ≡ false → is_traveller_marked masks i s ≡ false
  unmarked i e = ap (λ mask. has mask (i % 64)) (zero_of (traveller_mask_at masks (i / 64) s)
      (sym (are.marks (i / 64) s below) ∙ e)) ∙ has-zero (i % 64)

  pub none_beyond : ((block : ℕ) → from / 64 + 1 ≤ block → is_traveller_marked blocks block s ≡ false)
      → (i : ℕ) → from ≤ i → is_traveller_marked masks i s ≡ false
  none_beyond rest i above = elim (cases_lt i ((from / 64 + 1) * 64)) [
    | inl low ↦ none i above low
    | inr high ↦ unmarked i (rest (i / 64) (omega (arith, high)))
  ]

  module _ (block : ℕ) (first : IsLeastTravellerMarked blocks s (from / 64 + 1) block) where
    pub least_beyond : (least : ℕ) → IsLeastTravellerMarked masks s (block * 64) least
        → IsLeastTravellerMarked masks s from least
    least_beyond least is = (
      omega (arith, first.0, is.0),
      is.1,
      λ i above before. elim (cases_lt i ((from / 64 + 1) * 64)) [
        | inl low ↦ none i above low
        | inr high ↦ elim (cases_lt i (block * 64)) [
          | inl earlier ↦ unmarked i (first.2 (i / 64) (omega arith) (omega arith))
          | inr there ↦ is.2 i there before
        ]
      ],
    )

    -- the block has one
    pub block_has : has_traveller_marks masks block s ≡ true
    block_has = sym (are.marks block s below) ∙ first.1

-- ---- the first mark of a block

module _ (masks : List ℕ) (block s : ℕ) (some : has_traveller_marks masks block s ≡ true) where
  abbrev mask : ℕ
  mask = traveller_mask_at masks block s

  pub block_within : block * 64 + s < length masks
  block_within = by_place (cases_lt (block * 64 + s) (length masks)) where
    by_place : (block * 64 + s < length masks) ⊎ (length masks ≤ block * 64 + s)
        → block * 64 + s < length masks
    by_place (inl within) = within
    by_place (inr past) = absurd (
        let none : mask ≡ 0 = get_or_past masks (block * 64 + s) 0 past in
        let more = some_of mask some in omega (arith, none, more))

  module _ (fits : mask < 2 ^ 64) where
    few : least_in_number_set mask < 64
    few = least_lt mask (some_of mask some) fits

    in_block : (k : ℕ) → k < 64 → is_traveller_marked masks (block * 64 + k) s ≡ has mask k
    in_block k below = ap (λ b. has (traveller_mask_at masks b s) ((block * 64 + k) % 64))
        (let high : (block * 64 + k) / 64 ≡ block = omega (arith, below) in high) ∙ ap (has mask)
        (let low : (block * 64 + k) % 64 ≡ k = omega (arith, below) in low)

    pub first_marked : IsLeastTravellerMarked masks s (block * 64) (block * 64 + least_in_number_set mask)
    first_marked = (
      omega arith,
      in_block (least_in_number_set mask) few ∙ has_least mask (some_of mask some) fits,
      λ i above before. let k = i - block * 64 in
          let is : i ≡ block * 64 + k = omega (arith, above) in
          ap (λ j. is_traveller_marked masks j s) is ∙ in_block k (omega (arith, before, few))
          ∙ least_below mask (some_of mask some) fits k (omega (arith, above, before)),
    )
