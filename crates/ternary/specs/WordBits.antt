-- Which pairs of a value and a mask are words: the value is within the mask, and the mask within
-- the 104 bits of a header.
use Rattle.std.specs.Prelude.{◌<◌, ◌^◌, ◌≡◌}
use Rattle.ternary.specs.Word.{WordValue, word_fixed_value}

-- no bit of the value is outside the mask, and no bit of the mask is beyond the 104 of a header
pub record IsWord (w : WordValue) : Type 0 where
  pub within : word_fixed_value w ≡ w.value
  pub bounded : w.mask < 2 ^ 104
