-- Sets of the numbers that pass a test, as masks, and the least number of a set.
use Rattle.std.specs.Prelude.{[], if◌then◌else◌, ◌+◌, ◌^◌, ◌∷◌, Bool, List, bit_or, ℕ}
use Rattle.std.specs.Int.{trailing_zeros, w64}
use Rattle.base.specs.Masks.{switches}

-- the set of this number if the test is true, otherwise the empty set
abbrev pub only_if : Bool → ℕ → ℕ
only_if test k = if test then 2 ^ k else 0

-- the places, counted from k, of the elements that pass a test
unfoldable pub number_set_where : {X : Type 0} → (X → Bool) → ℕ → List X → ℕ
number_set_where test k [] = 0
number_set_where test k (x ∷ xs) = bit_or (only_if (test x) k) (number_set_where test (k + 1) xs)

-- the numbers below 64 that pass a test
unfoldable pub small_number_mask : (ℕ → Bool) → ℕ
small_number_mask test = number_set_where test 0 switches

-- the least number of a set that isn't empty
unfoldable pub least_in_number_set : ℕ → ℕ
least_in_number_set mask = trailing_zeros w64 mask
