-- Counters for many bits at once.
use Rattle.std.specs.Prelude.{[], if◌then◌else◌, ◌*◌, ◌+◌, ◌==◌, ◌∷◌, ◌≡◌, ◌≤◌, Bool, IsFalse, List, drop, length, ℕ}
use Rattle.base.specs.Exports.{bit_at}
use Rattle.ternary.specs.Exports.{WordValue, word_covers_of, word_fix_of}
use Rattle.policy_rules.specs.declared.rules.Rule.{Rule}
use Rattle.cut_tree.specs.Cuts.{IsCuttableBit, cut_cost_from, side_of_cut}
use Rattle.cut_tree.specs.Nodes.{LiesInCutRegion}
use Rattle.cut_tree.specs.declared.choice.Cost.{Cost}
use Rattle.cut_tree.specs.declared.choice.CutSide.{CutSide}

-- plane k has the bits of weight 2 ^ k of all counters
abbrev pub cut_count_at : List ℕ → ℕ → ℕ
cut_count_at [] bit = 0
cut_count_at (plane ∷ planes) bit = bit_at plane bit + 2 * cut_count_at planes bit

-- of the 32 planes this many, from the first, contain all the counts
pub record IsCutPlaneHeight (planes : List ℕ) (height : ℕ) : Type 0 where
  pub bound : height ≤ 32
  pub above : (bit : ℕ) → cut_count_at (drop height planes) bit ≡ 0

-- the count in the second planes for a bit of the set, and in the first ones for any other
abbrev pub cut_count_by : List ℕ → List ℕ → ℕ → ℕ → ℕ
cut_count_by first second which bit =
    if bit_at which bit == 1 then cut_count_at second bit else cut_count_at first bit

-- of a set of bits, none has a lower count than this one
pub record IsCutBitOfLeastCount (bits : ℕ) (count : ℕ → ℕ) (bit : ℕ) : Type 0 where
  pub member : bit_at bits bit ≡ 1
  pub least : (other : ℕ) → bit_at bits other ≡ 1 → count bit ≤ count other

-- the cost of a cut at the bit, by what is counted for its sides
abbrev pub counted_cut_cost : List ℕ → List ℕ → ℕ → Cost
counted_cut_cost low high bit = cut_cost_from bit (cut_count_at low bit) (cut_count_at high bit)

-- what is counted for a bit
abbrev pub cut_count_on_side : CutSide → ℕ → ℕ
cut_count_on_side side bit = cut_count_at side.counts.planes bit

-- what will be counted for a bit in the end, if these rules are still to come
abbrev pub expected_cut_side_count : CutSide → WordValue → ℕ → List Rule → ℕ
expected_cut_side_count side region bit rules =
    cut_count_on_side side bit + bit_at side.open bit * length (side_of_cut rules region bit side.one)

-- the side has counted the rules before this place
pub record IsCutSideCounting (side : CutSide) (upper : Bool) (rules : List Rule)
    (region : WordValue) (place : ℕ) : Type 0 where
  pub one : side.one ≡ upper
  pub few : (bit : ℕ) → cut_count_on_side side bit ≤ place
  pub rest : (bit : ℕ) → IsCuttableBit region bit →
      expected_cut_side_count side region bit (drop place rules) ≡ length (side_of_cut rules region bit upper)

-- the side has counted the rules of each half
abbrev pub HaveCutSidesCounted : CutSide → Bool → List Rule → WordValue → Type 0
HaveCutSidesCounted side one rules region =
    (bit : ℕ) → IsCuttableBit region bit → cut_count_on_side side bit ≡ length (side_of_cut rules region bit one)

-- the rule lies in the region and covers no half of it
pub record IsNarrowInCutRegion (region : WordValue) (rule : Rule) : Type 0 where
  pub within : LiesInCutRegion region rule
  pub covers : (bit : ℕ) (one : Bool) → IsCuttableBit region bit →
      IsFalse (word_covers_of rule.word (word_fix_of region bit one))

-- each of four rules lies in the region and covers no half of it
pub record AreNarrowInCutRegion (region : WordValue) (a b c d : Rule) : Type 0 where
  pub first : IsNarrowInCutRegion region a
  pub second : IsNarrowInCutRegion region b
  pub third : IsNarrowInCutRegion region c
  pub fourth : IsNarrowInCutRegion region d
