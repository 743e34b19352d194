-- The tree as a function of the rules, and as a test.
use Rattle.std.proofs.Common.{◌+◌, ◌<◌, ◌∙◌, ◌≡◌, ◌≤◌, Bool, List, None, Option, Some, ap, arith, false, get_or, inl, inr, le-leb, length, length-append, refl, subst, suc, sym, true, zero, ℕ, rules}
use Rattle.base.proofs.Exports.{IfRefused-weaker, both_ways, cases_lt, lt-leb}
use Rattle.ternary.specs.Exports.{WordValue, any_word, word_fix_of}
use Rattle.ternary.proofs.TernaryCallerLemmas.{any_covers, any_unfixed, fix_word, free_bits_shorter}
use Rattle.base.specs.Exports.{IfRefused}
use Rattle.base.specs.declared.error.Failure.{Failure}
use Rattle.policy_rules.specs.declared.rules.Rule.{Rule}
use Rattle.cut_tree.specs.Exports.{AreCutNodeRules, AreCutRuleWords, End, IsDefinedCutTree, IsLeastCut, IsCutRegionOneHeader, IsCutTreeOf, Node, CutTreeShape, cut_tree_by, free_cut_bit_count, cut_leaf_count, least_cut_cost_below, side_of_cut, cut_tree_at, cut_tree_of, cut_tree_within}
use Rattle.cut_tree.specs.declared.choice.Cost.{Cost}
use Rattle.cut_tree.proofs.CutLemmas.{least_cuts, least_only, least_missing}
use Rattle.cut_tree.proofs.CutNarrowing.{narrow_node}

-- ---- the function, node by node

within_leaf : (depth most : ℕ) (rules : List Rule) (region : WordValue) → length rules ≤ most
    → cut_tree_within depth most rules region ≡ End region rules
unfolding cut_tree_within
within_leaf zero most rules region few = refl
within_leaf (suc depth) most rules region few = rw (le-leb (length rules) most few, cut_tree_within)

within_cut : (depth most : ℕ) (rules : List Rule) (region : WordValue) (cost : Cost)
    → most < length rules → least_cut_cost_below 104 rules region ≡ Some cost
    → cut_tree_within (suc depth) most rules region ≡ cut_tree_by (cut_tree_within depth most) rules region
    (Some cost)
unfolding cut_tree_within
within_cut depth most rules region cost many is =
    rw (lt-leb (length rules) most many, cut_tree_within, is)

pub tree_leaf : (most : ℕ) (rules : List Rule) (region : WordValue) → length rules ≤ most
    → cut_tree_at most rules region ≡ End region rules
tree_leaf most rules region few = within_leaf (free_cut_bit_count region) most rules region few

half_count : (rules : List Rule) (region : WordValue) (bit : ℕ) (one : Bool)
    → IsLeastCut rules region bit → free_cut_bit_count region ≡ suc (free_cut_bit_count (word_fix_of region bit one))
half_count rules region bit one least =
    omega (arith, free_bits_shorter region bit one least.cuts.bound least.cuts.free)

pub tree_cut : (most : ℕ) (rules : List Rule) (region : WordValue) (cost : Cost)
    → most < length rules → least_cut_cost_below 104 rules region ≡ Some cost
    → cut_tree_at most rules region ≡ cut_tree_by (cut_tree_at most) rules region (Some cost)
tree_cut most rules region cost many is =
    let least = least_cuts rules region cost is in
    let bit = cost.bit in
    let low = free_cut_bit_count (word_fix_of region bit false) in
    let same : low ≡ (free_cut_bit_count (word_fix_of region bit true)) = omega
    (arith, half_count rules region bit false least, half_count rules region bit true least) in
    let lower = cut_tree_within low most (side_of_cut rules region bit false) (word_fix_of region bit false) in
    (ap (λ n. cut_tree_within n most rules region) (half_count rules region bit false least))
    ∙ within_cut low most rules region cost many is
    ∙ ap (λ n. Node bit lower
    (cut_tree_within n most (side_of_cut rules region bit true) (word_fix_of region bit true))) same

-- ---- the rules of nodes

any_free : IsCutRegionOneHeader any_word → ⊥
any_free one = both_ways _ (any_unfixed 0) (one 0 (omega arith))

pub root_node : (rules : List Rule) → AreCutRuleWords rules → AreCutNodeRules rules any_word
root_node rules words = record {
  whole = record { within = refl; bounded = omega arith };
  words = words;
  within = λ k d within. any_covers (get_or rules k d).word;
  ended = λ one. absurd (any_free one);
}

pub side_node : (rules : List Rule) (region : WordValue) (bit : ℕ) (one : Bool)
    → AreCutNodeRules rules region → bit < 104 → AreCutNodeRules (side_of_cut rules region bit one)
    (word_fix_of region bit one)
side_node rules region bit one node within = search (rules, narrow_node, fix_word)

-- more rules than one leave a bit to cut at
pub never_stuck : (most : ℕ) (rules : List Rule) (region : WordValue) → 0 < most
    → most < length rules → AreCutNodeRules rules region → least_cut_cost_below 104 rules region ≡ None → ⊥
never_stuck most rules region some many node none =
    omega (arith, node.ended (least_missing 104 rules region none))

-- ---- the function gives the tree of the test

pub leaf_defined : (most : ℕ) (rules : List Rule) (region : WordValue) → length rules ≤ most
    → IsCutTreeOf rules region most (End region rules)
leaf_defined most rules region few = record { same_region = refl; same_rules = refl; few = few }

cut_defined : (most : ℕ) (rules : List Rule) (region : WordValue) (cost : Cost) (low high : CutTreeShape)
    → most < length rules → least_cut_cost_below 104 rules region ≡ Some cost
    → IsCutTreeOf (side_of_cut rules region cost.bit false) (word_fix_of region cost.bit false) most low
    → IsCutTreeOf (side_of_cut rules region cost.bit true) (word_fix_of region cost.bit true) most high
    → IsCutTreeOf rules region most (Node cost.bit low high)
cut_defined most rules region cost low high many is lower higher = search (rules, least_cuts)

-- down from a region with so many free bits
defined_from : (n most : ℕ) (rules : List Rule) (region : WordValue) (found : Option Cost)
    → 0 < most → AreCutNodeRules rules region → free_cut_bit_count region ≡ n → least_cut_cost_below 104 rules region
    ≡ found → IsCutTreeOf rules region most (cut_tree_at most rules region)
defined_from n most rules region None some node count none = elim (cases_lt most (length rules)) [
  | inr few ↦ rw (tree_leaf most rules region few) (leaf_defined most rules region few)
  | inl many ↦ absurd (never_stuck most rules region some many node none)
]
defined_from zero most rules region (Some cost) some node count is = absurd (omega (
  arith,
  count,
  half_count rules region cost.bit false (least_cuts rules region cost is),
))
defined_from (suc n) most rules region (Some cost) some node count is =
    elim (cases_lt most (length rules)) [
      | inr few ↦ rw (tree_leaf most rules region few) (leaf_defined most rules region few)
      | inl many ↦ let least = least_cuts rules region cost is in
          let bit = cost.bit in
          let low = side_of_cut rules region bit false in
          let high = side_of_cut rules region bit true in
          let high_count : free_cut_bit_count (word_fix_of region bit true) ≡ n =
          omega (arith, count, half_count rules region bit true least) in
          let lower = defined_from n most low (word_fix_of region bit false)
          (least_cut_cost_below 104 low (word_fix_of region bit false)) some
          (side_node rules region bit false node least.cuts.bound)
          (omega (arith, count, half_count rules region bit false least)) refl in
          let higher = defined_from n most high (word_fix_of region bit true)
          (least_cut_cost_below 104 high (word_fix_of region bit true)) some
          (side_node rules region bit true node least.cuts.bound) high_count refl in
          rw (tree_cut most rules region cost many is)
          (cut_defined most rules region cost _ _ many is lower higher)
    ]

-- ---- a list has one tree

pub one_tree : (a b : CutTreeShape) (rules : List Rule) (region : WordValue) (most : ℕ)
    → IsCutTreeOf rules region most a → IsCutTreeOf rules region most b → a ≡ b
one_tree (End r rs) (End s ss) rules region most p q = search rules
one_tree (End r rs) (Node bit low high) rules region most p q =
    absurd (omega (arith, p.few, q.0.many))
one_tree (Node bit low high) (End r rs) rules region most p q =
    absurd (omega (arith, p.0.many, q.few))
one_tree (Node bit low high) (Node other lower higher) rules region most p q =
    let same : other ≡ bit = least_only rules region other bit q.0.least p.0.least in
    let Low : ℕ → Type 0 = λ k. IsCutTreeOf (side_of_cut rules region k false) (word_fix_of region k false) most
    lower in
    let High : ℕ → Type 0 = λ k. IsCutTreeOf (side_of_cut rules region k true) (word_fix_of region k true) most
    higher in
    let h : high ≡ higher = one_tree high higher _ _ most p.2 (subst High same q.2) in
    λ i. Node (sym same i) ((one_tree low lower _ _ most p.1 (subst Low same q.1)) i) (h i)

-- ---- the root

pub tree_defined : (rules : List Rule) (most : ℕ) → 0 < most → AreCutRuleWords rules
    → IsDefinedCutTree rules most (cut_tree_of rules most)
unfolding cut_tree_of
tree_defined rules most some words = defined_from (free_cut_bit_count any_word) most rules any_word
    (least_cut_cost_below 104 rules any_word) some (root_node rules words) refl refl

-- ---- a node that is cut, by the rules and regions of its halves

pub cut_at : (most : ℕ) (rules : List Rule) (region : WordValue) (cost : Cost)
    (low high : List Rule) (lower higher : WordValue) → most < length rules
    → least_cut_cost_below 104 rules region ≡ Some cost → low ≡ side_of_cut rules region cost.bit false
    → lower ≡ word_fix_of region cost.bit false → high ≡ side_of_cut rules region cost.bit true
    → higher ≡ word_fix_of region cost.bit true → cut_tree_at most rules region ≡ Node cost.bit
    (cut_tree_at most low lower) (cut_tree_at most high higher)
cut_at most rules region cost low high lower higher many is l lr h hr = rw (l, lr, h, hr)
    (tree_cut most rules region cost many is)

pub defined_at : (most : ℕ) (rules : List Rule) (region : WordValue) (cost : Cost)
    (low high : List Rule) (lower higher : WordValue) (a b : CutTreeShape) → most < length rules
    → least_cut_cost_below 104 rules region ≡ Some cost → low ≡ side_of_cut rules region cost.bit false
    → lower ≡ word_fix_of region cost.bit false → high ≡ side_of_cut rules region cost.bit true
    → higher ≡ word_fix_of region cost.bit true → IsCutTreeOf low lower most a → IsCutTreeOf high higher most b
    → IsCutTreeOf rules region most (Node cost.bit a b)
defined_at most rules region cost low high lower higher a b many is l lr h hr p q =
    let P : List Rule → WordValue → Type 0 = λ rs r. IsCutTreeOf rs r most a in
    let Q : List Rule → WordValue → Type 0 = λ rs r. IsCutTreeOf rs r most b in
    cut_defined most rules region cost a b many is
    (subst (P (side_of_cut rules region cost.bit false)) lr (subst (λ rs. P rs lower) l p))
    (subst (Q (side_of_cut rules region cost.bit true)) hr (subst (λ rs. Q rs higher) h q))

pub half_smaller : (rules : List Rule) (region : WordValue) (cost : Cost) (half : WordValue)
    (one : Bool) → least_cut_cost_below 104 rules region ≡ Some cost → half ≡ word_fix_of region cost.bit one
    → free_cut_bit_count half < free_cut_bit_count region
half_smaller rules region cost half one is same =
    rw same (omega (arith, half_count rules region cost.bit one (least_cuts rules region cost is)))

-- ---- refusals

pub exceeds_low : {R : Type 0} (tree low high : CutTreeShape) (bit room : ℕ) (e : Failure R)
    → tree ≡ Node bit low high → IfRefused (λ _. room < cut_leaf_count low) e
    → IfRefused (λ _. room < cut_leaf_count tree) e
exceeds_low tree low high bit room e is = search (rules, IfRefused-weaker, length-append)

pub exceeds_high : {R : Type 0} (tree low high : CutTreeShape) (bit room left : ℕ) (e : Failure R)
    → tree ≡ Node bit low high → room ≡ left + cut_leaf_count low
    → IfRefused (λ _. left < cut_leaf_count high) e → IfRefused (λ _. room < cut_leaf_count tree) e
exceeds_high tree low high bit room left e is taken =
    search (rules, IfRefused-weaker, length-append)
