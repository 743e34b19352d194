-- The laws of masks: `small_number_mask_laws` of the crate ensures them.
use Rattle.std.specs.Prelude.{◌<◌, ◌^◌, ◌≡◌, ◌≤◌, Bool, false, ℕ}
use Rattle.base.specs.Masks.{has}
use Rattle.base.specs.ComputedMasks.{small_number_mask}

pub record SmallNumberMaskLaws : Type 0 where
  pub small : (test : ℕ → Bool) → small_number_mask test < 2 ^ 64
  pub bits : (test : ℕ → Bool) (k : ℕ) → k < 64 → has (small_number_mask test) k ≡ test k
  pub past : (mask k : ℕ) → mask < 2 ^ 64 → 64 ≤ k → has mask k ≡ false
  -- only the mask of a test has exactly the numbers that pass
  pub unique : (mask : ℕ) (test : ℕ → Bool) → mask < 2 ^ 64
      → ((k : ℕ) → k < 64 → has mask k ≡ test k) → mask ≡ small_number_mask test
