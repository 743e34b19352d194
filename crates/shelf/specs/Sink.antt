-- First tier. What contracts see of a sink of bytes, and counts of faults: numbers of 64 bits that
-- never fall and stop at their greatest value.
use Rattle.std.specs.Prelude.{◌++◌, ◌+◌, ◌-◌, ◌<◌, ◌^◌, ◌≡◌, ◌≤◌, List, None, Option, Some, length, min, take, ℕ}

-- one more, or the greatest value
abbrev pub next_sink_fault_count : ℕ → ℕ
next_sink_fault_count n = min (n + 1) (2 ^ 64 - 1)

-- the count rose, or is at its greatest value
abbrev pub SinkFaultsRose : ℕ → ℕ → Type 0
SinkFaultsRose before now = next_sink_fault_count before ≤ now

-- what contracts see of each sink: its bytes, if they are known, and how often it failed
pub record SinkState : Type 0 where
  pub bytes : Option (List ℕ)
  pub faults : ℕ

-- what is known of a sink that gained a piece: its bytes, if they were known, and the piece
abbrev pub sink_with_gained : Option (List ℕ) → List ℕ → Option (List ℕ)
sink_with_gained None piece = None
sink_with_gained (Some bytes) piece = Some (bytes ++ piece)

-- the sink gained some of these bytes from the front, and not all
abbrev pub SinkGainedPart : Option (List ℕ) → List ℕ → Option (List ℕ) → Type 0
SinkGainedPart old bytes new = (n : ℕ) × (n < length bytes) × (new ≡ sink_with_gained old (take n bytes))
