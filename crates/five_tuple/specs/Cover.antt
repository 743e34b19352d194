-- A range of ports as aligned blocks whose sizes are powers of two (V. Srinivasan, G. Varghese, S.
-- Suri, M. Waldvogel: Fast and Scalable Layer Four Switching, where ranges become prefixes).
use Rattle.std.specs.Prelude.{[], if◌then◌else◌, ◌%◌, ◌&&◌, ◌+◌, ◌-◌, ◌<◌, ◌==◌, ◌^◌, ◌∷◌, ◌≡◌, ◌≤◌, Bool, IsTrue, List, bit_and, nat_le, nat_lt, suc, zero, ℕ}
use Rattle.five_tuple.specs.Header.{PortRangeValue}

-- ---- blocks

-- ports that share some of their first bits: a value, and the mask of the bits that matter
abbrev pub TuplePortBlock : Type 0
TuplePortBlock = ℕ × ℕ

-- value and mask have 16 bits, and no bit of the value is outside the mask
pub record IsTuplePortBlock (block : TuplePortBlock) : Type 0 where
  pub value : block.0 < 2 ^ 16
  pub mask : block.1 < 2 ^ 16
  pub inside : bit_and block.0 block.1 ≡ block.0

-- the port has the block's value in the bits of its mask
abbrev pub tuple_port_block_holds : ℕ → TuplePortBlock → Bool
tuple_port_block_holds port block = bit_and port block.1 == block.0

-- no port is in both
abbrev pub AreTuplePortBlocksApart : TuplePortBlock → TuplePortBlock → Type 0
AreTuplePortBlocksApart a b =
    (port : ℕ) → port < 2 ^ 16 → IsTrue (tuple_port_block_holds port a) → IsTrue (tuple_port_block_holds port b) → ⊥

-- the block of 2 ^ exponent ports that begins at `first`
abbrev pub port_range_block_at : ℕ → ℕ → TuplePortBlock
port_range_block_at first exponent = (first, 2 ^ 16 - 2 ^ exponent)

-- ---- the cover of a range

-- the 2 ^ exponent ports from `first` on are aligned and end at or below `high`
abbrev pub tuple_port_block_fits_at : ℕ → ℕ → ℕ → Bool
tuple_port_block_fits_at first high exponent =
    (first % 2 ^ exponent == 0) && nat_le (first + 2 ^ exponent) (high + 1)

-- the largest such exponent, of those up to this one
abbrev pub largest_tuple_port_block_exponent : ℕ → ℕ → ℕ → ℕ
largest_tuple_port_block_exponent zero first high = 0
largest_tuple_port_block_exponent (suc exponent) first high =
    if tuple_port_block_fits_at first high (suc exponent) then suc exponent else largest_tuple_port_block_exponent exponent first high

-- at most this many blocks from `low` on, each the largest that begins where the one before it
-- ends, until no port is left
abbrev pub tuple_port_blocks_from : ℕ → ℕ → ℕ → List TuplePortBlock
tuple_port_blocks_from zero low high = []
tuple_port_blocks_from (suc most) low high =
    if nat_lt high low then [] else (let exponent = largest_tuple_port_block_exponent 16 low high in
    port_range_block_at low exponent ∷ tuple_port_blocks_from most (low + 2 ^ exponent) high)

-- the blocks of a range; there are at most as many as ports
unfoldable pub port_range_cover_of : PortRangeValue → List TuplePortBlock
port_range_cover_of range = tuple_port_blocks_from (range.high + 1 - range.low) range.low range.high

-- ---- the same, as a relation

-- the block of 2 ^ exponent ports from `first` on is aligned and ends at or below `high`
pub record IsAlignedTuplePortBlock (first high exponent : ℕ) : Type 0 where
  pub aligned : first % 2 ^ exponent ≡ 0
  pub fits : first + 2 ^ exponent ≤ high + 1

-- no larger one begins there
pub record IsLargestTuplePortBlock (first high exponent : ℕ) : Type 0 where
  pub block : IsAlignedTuplePortBlock first high exponent
  pub largest : (other : ℕ) → IsAlignedTuplePortBlock first high other → other ≤ exponent

-- from `low` on, each is the largest block, and nothing is left after the last one
abbrev pub IsTuplePortCover : ℕ → ℕ → List TuplePortBlock → Type 0
IsTuplePortCover low high [] = high < low
IsTuplePortCover low high (block ∷ more) =
    (exponent : ℕ) × IsLargestTuplePortBlock low high exponent × (block ≡ port_range_block_at low exponent)
    × IsTuplePortCover (low + 2 ^ exponent) high more
