-- Bits of masks.
use Rattle.std.proofs.Common.{◌<◌, ◌==◌, ◌^◌, ◌||◌, ◌∙◌, ◌≡◌, ◌≤◌, Bool, ap, bit_or, eq-eqb, false, inl, inr, nat_eq, ne_eqb, ℕ}
use Rattle.base.proofs.Exports.{bit_at, cases_eq}
use Rattle.base.proofs.BaseCallerLemmas as masks
use Rattle.base.specs.Exports.{has, small_number_mask}

abbrev pub in_mask : ℕ → ℕ → Bool
in_mask mask k = bit_at mask k == 1

pub in_mask_or : (a b k : ℕ) → in_mask (bit_or a b) k ≡ (in_mask a k || in_mask b k)
unfolding has
in_mask_or = masks.has-or

pub in_mask_pow : (p k : ℕ) → in_mask (2 ^ p) k ≡ nat_eq k p
unfolding has
in_mask_pow p k = elim (cases_eq k p) [
  | inl same ↦ rw (eq-eqb k p same, same) (masks.has-pow_same p)
  | inr other ↦ rw (ne_eqb k p other) (masks.has-pow_other p k other)
]

-- one more bit
pub in_mask_with : (mask p k : ℕ) → in_mask (bit_or mask (2 ^ p)) k ≡ (in_mask mask k || nat_eq k p)
in_mask_with mask p k = in_mask_or mask (2 ^ p) k ∙ ap (λ b. in_mask mask k || b) (in_mask_pow p k)

pub in_mask_of : (test : ℕ → Bool) (k : ℕ) → k < 64 → in_mask (small_number_mask test) k ≡ test k
unfolding has
in_mask_of = masks.has_mask

pub in_mask_past : (mask k : ℕ) → mask < 2 ^ 64 → 64 ≤ k → in_mask mask k ≡ false
unfolding has
in_mask_past = masks.has_above

-- a mask is the one of a test that says what bits it has
pub mask_of_is : (mask : ℕ) (test : ℕ → Bool) → mask < 2 ^ 64 → ((k : ℕ) → in_mask mask k ≡ test k)
    → mask ≡ small_number_mask test
unfolding has
mask_of_is mask test small same = masks.mask_of_is mask test small (λ k below. same k)
