-- The tree of a list of rules: a test of a given tree, and the tree as a function.
use Rattle.std.specs.Prelude.{◌<◌, ◌≡◌, ◌≤◌, List, None, Option, Some, false, length, nat_le, suc, true, zero, ℕ}
use Rattle.ternary.specs.Exports.{WordValue, any_word, word_fix_of, free_word_bits}
use Rattle.policy_rules.specs.declared.rules.Rule.{Rule}
use Rattle.cut_tree.specs.Cuts.{IsLeastCut, least_cut_cost_below, side_of_cut}
use Rattle.cut_tree.specs.Shape.{CutTreeShape, End, Node}
use Rattle.cut_tree.specs.declared.choice.Cost.{Cost}

-- ---- the test

-- a leaf of this region holds these rules, which are no more than the cap
pub record IsCutLeafOf (rules : List Rule) (region : WordValue) (most : ℕ)
    (leaf_region : WordValue) (leaf_rules : List Rule) : Type 0 where
  pub same_region : leaf_region ≡ region
  pub same_rules : leaf_rules ≡ rules
  pub few : length rules ≤ most

-- more rules than the cap are cut where it costs least
pub record IsCutOf (rules : List Rule) (region : WordValue) (most bit : ℕ) : Type 0 where
  pub many : most < length rules
  pub least : IsLeastCut rules region bit

-- this tree is the one of these rules in this region: each side of a cut is the tree of the
-- rules of its half
abbrev pub IsCutTreeOf : List Rule → WordValue → ℕ → CutTreeShape → Type 0
IsCutTreeOf rules region most (End leaf_region leaf_rules) =
    IsCutLeafOf rules region most leaf_region leaf_rules
IsCutTreeOf rules region most (Node bit low high) =
    IsCutOf rules region most bit
    × IsCutTreeOf (side_of_cut rules region bit false) (word_fix_of region bit false) most low
    × IsCutTreeOf (side_of_cut rules region bit true) (word_fix_of region bit true) most high

-- the defined tree of a list, which is not narrowed at the root
abbrev pub IsDefinedCutTree : List Rule → ℕ → CutTreeShape → Type 0
IsDefinedCutTree rules most tree = IsCutTreeOf rules any_word most tree

-- ---- the function

abbrev pub free_cut_bit_count : WordValue → ℕ
free_cut_bit_count region = length (free_word_bits region)

-- both sides of a cut, if there is one, built by this function
abbrev pub cut_tree_by : (List Rule → WordValue → CutTreeShape) → List Rule → WordValue → Option Cost → CutTreeShape
cut_tree_by grow rules region None = End region rules
cut_tree_by grow rules region (Some cost) =
    Node cost.bit
    (grow (side_of_cut rules region cost.bit false) (word_fix_of region cost.bit false))
    (grow (side_of_cut rules region cost.bit true) (word_fix_of region cost.bit true))

-- the tree, with at most this many cuts on a path from its root
unfoldable pub cut_tree_within : ℕ → ℕ → List Rule → WordValue → CutTreeShape
cut_tree_within zero most rules region = End region rules
cut_tree_within (suc depth) most rules region = elim (nat_le (length rules) most) [
  | true ↦ End region rules
  | false ↦ cut_tree_by (cut_tree_within depth most) rules region (least_cut_cost_below 104 rules region)
]

-- the tree of these rules in this region
abbrev pub cut_tree_at : ℕ → List Rule → WordValue → CutTreeShape
cut_tree_at most rules region = cut_tree_within (free_cut_bit_count region) most rules region

-- the defined tree of a list with this cap
unfoldable pub cut_tree_of : List Rule → ℕ → CutTreeShape
cut_tree_of rules most = cut_tree_at most rules any_word
