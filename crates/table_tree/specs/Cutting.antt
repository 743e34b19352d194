-- Bits of masks, and the least free bit of a region that passes a test.
use Rattle.std.specs.Prelude.{◌<◌, ◌≡◌, ◌≤◌, Bool, IsFalse, IsTrue, ℕ}
use Rattle.std.specs.Int.{bit_at}
use Rattle.ternary.specs.Exports.{WordValue}
use Rattle.cut_tree.specs.Exports.{IsCuttableBit}

-- of the bits of n, k is the lowest
pub record IsLowestLookupBit (n k : ℕ) : Type 0 where
  pub set : bit_at n k ≡ 1
  pub below : (j : ℕ) → j < k → bit_at n j ≡ 0

-- of the region's free bits that pass, this is the least
pub record IsLeastFreeLookupBit (region : WordValue) (passes : ℕ → Bool) (bit : ℕ) : Type 0 where
  pub free : IsCuttableBit region bit
  pub passing : IsTrue (passes bit)
  pub least : (other : ℕ) → IsCuttableBit region other → IsTrue (passes other) → bit ≤ other

-- none of the region's free bits passes
abbrev pub LookupPassesNoFreeBit : WordValue → (ℕ → Bool) → Type 0
LookupPassesNoFreeBit region passes = (bit : ℕ) → IsCuttableBit region bit → IsFalse (passes bit)
