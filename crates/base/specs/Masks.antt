-- First tier. Sets of numbers below 64, such as switches or ports, as masks: k is in the set if bit
-- k of the mask is 1.
use Rattle.std.specs.Prelude.{◌==◌, Bool, List, ℕ}
use Rattle.std.specs.Int.{bit_at}
use Rattle.std.specs.List.{range_with_len}

unfoldable pub has : ℕ → ℕ → Bool
has mask k = bit_at mask k == 1

-- the numbers of switches: 0 to 63
unfoldable pub switches : List ℕ
switches = range_with_len 0 64
