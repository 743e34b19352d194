-- Which bit a region is cut at. The order of costs is this project's own; the cuts are those of
-- Yu, Rexford, Freedman and Wang, "Scalable Flow-Based Networking with DIFANE", SIGCOMM 2010.
use Rattle.std.specs.Prelude.{if◌then◌else◌, ◌&&◌, ◌+◌, ◌<◌, ◌==◌, ◌||◌, ◌≡◌, ◌≤◌, Bool, IsFalse, List, None, Option, Some, false, length, max, nat_lt, suc, true, zero, ℕ}
use Rattle.ternary.specs.Exports.{WordValue, word_fix_of, is_word_bit_fixed}
use Rattle.policy_rules.specs.declared.rules.Rule.{Rule}
use Rattle.cut_tree.specs.Narrow.{narrow}
use Rattle.cut_tree.specs.declared.choice.Cost.{Cost}

-- the rules of the half in which the bit is 1 if `one` is true, otherwise 0
abbrev pub side_of_cut : List Rule → WordValue → ℕ → Bool → List Rule
side_of_cut rules region bit one = narrow rules (word_fix_of region bit one)

-- the cost of a cut at this bit into sides of these sizes
abbrev pub cut_cost_from : ℕ → ℕ → ℕ → Cost
cut_cost_from bit low high = record { larger = max low high; sum = low + high; bit = bit }

-- what it costs to cut the region at this bit
abbrev pub cut_cost_of : List Rule → WordValue → ℕ → Cost
cut_cost_of rules region bit =
    cut_cost_from bit
    (length (side_of_cut rules region bit false))
    (length (side_of_cut rules region bit true))

-- a costs no more than b
pub record CutCostsAtMost (a b : Cost) : Type 0 where
  pub larger : a.larger ≤ b.larger
  pub sum : a.larger ≡ b.larger → a.sum ≤ b.sum
  pub bit : a.larger ≡ b.larger → a.sum ≡ b.sum → a.bit ≤ b.bit

-- a bit of a header that the region leaves free
pub record IsCuttableBit (region : WordValue) (bit : ℕ) : Type 0 where
  pub bound : bit < 104
  pub free : IsFalse (is_word_bit_fixed region bit)

-- of the cuts of the region, the one at this bit costs least
pub record IsLeastCut (rules : List Rule) (region : WordValue) (bit : ℕ) : Type 0 where
  pub cuts : IsCuttableBit region bit
  pub least : (other : ℕ) → IsCuttableBit region other →
      CutCostsAtMost (cut_cost_of rules region bit) (cut_cost_of rules region other)

-- the larger side of a is smaller than that of b, or these are equal and the sum of a is smaller
abbrev pub is_cheaper_cut : Cost → Cost → Bool
is_cheaper_cut a b = nat_lt a.larger b.larger || ((a.larger == b.larger) && nat_lt a.sum b.sum)

-- of a cut and the least one so far, the one that costs less
abbrev pub cheaper_cut_cost : Cost → Option Cost → Cost
cheaper_cut_cost cost None = cost
cheaper_cut_cost cost (Some best) = if is_cheaper_cut cost best then cost else best

-- what the least cut at a bit below this number costs
unfoldable pub least_cut_cost_below : ℕ → List Rule → WordValue → Option Cost
least_cut_cost_below zero rules region = None
least_cut_cost_below (suc bit) rules region =
    if is_word_bit_fixed region bit then least_cut_cost_below bit rules region
    else Some (cheaper_cut_cost (cut_cost_of rules region bit) (least_cut_cost_below bit rules region))
