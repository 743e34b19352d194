-- A decision tree that finds the first rule of a header: a list of rules is cut as in Yu, Rexford,
-- Freedman and Wang, "Scalable Flow-Based Networking with DIFANE", SIGCOMM 2010; when a cut pays
-- is this project's own rule.
use Rattle.std.specs.Prelude.{[], if◌then◌else◌, ◌&&◌, ◌*◌, ◌+◌, ◌∷◌, Bool, List, None, Option, Some, Vec, false, length, map, nat_le, nat_lt, slice_get, suc, true, zero, ℕ}
use Rattle.std.specs.Option.{option_map_or}
use Rattle.ternary.specs.Exports.{WordValue, word_fix_of, holds}
use Rattle.policy_rules.specs.declared.rules.Partition.{Partition}
use Rattle.policy_rules.specs.declared.rules.Rule.{Rule}
use Rattle.cut_tree.specs.Exports.{least_cut_cost_below, narrow, side_of_cut}
use Rattle.cut_tree.specs.declared.choice.Cost.{Cost}
use Rattle.std.specs.Global.{Global}
use Rattle.table_tree.specs.LookupTrees.{LookupTree, Leaf, Sides, lookup_tree_of}
use Rattle.table_tree.specs.declared.bit_tree.BitTree.{BitTree}
use Rattle.table_tree.specs.declared.rule_tree.RuleTree.{RuleTree}

-- the shape of a tree, which leads to the places of the rules that are left, in order
abbrev pub table_tree_rule_shape : BitTree (Vec ℕ Global) → LookupTree (List ℕ)
table_tree_rule_shape tree = lookup_tree_of (λ places. places.items) tree

-- there is a rule at the place that holds the number
abbrev pub is_held_by_lookup_rule : List Rule → ℕ → ℕ → Bool
is_held_by_lookup_rule rules number place =
    option_map_or (λ (rule : Rule). holds rule.word number) (slice_get rules place) false

-- ---- the defined tree

-- the rules, each with its place in the list, from this one on, as its rank
abbrev pub table_tree_ranked_rules : ℕ → List Rule → List Rule
table_tree_ranked_rules place [] = []
table_tree_ranked_rules place (rule ∷ rules) = record rule { rank = place } ∷ table_tree_ranked_rules (place + 1) rules

-- a node of this many rules is worth this cut: it has more than 16, the larger side has fewer, and
-- both together have at most five quarters of them
abbrev pub table_tree_worth_cutting : ℕ → Cost → Bool
table_tree_worth_cutting count cost = nat_lt 16 count && nat_lt cost.larger count
    && nat_le (4 * cost.sum) (5 * count)

abbrev pub table_tree_if_pays : ℕ → Option Cost → Option Cost
table_tree_if_pays count None = None
table_tree_if_pays count (Some cost) = if table_tree_worth_cutting count cost then Some cost else None

-- with this many cuts left, the cut of the node that costs least, if it pays
abbrev pub table_tree_paying_cut : ℕ → List Rule → WordValue → Option Cost
table_tree_paying_cut zero rules region = None
table_tree_paying_cut (suc cuts) rules region = table_tree_if_pays (length rules) (least_cut_cost_below 104 rules region)

-- the places of these rules, if there is no cut; otherwise both sides, built by this function
abbrev pub table_tree_by_cut : (List Rule → WordValue → LookupTree (List ℕ)) → List Rule → WordValue
    → Option Cost → LookupTree (List ℕ)
table_tree_by_cut grow rules region None = Leaf (map (λ (rule : Rule). rule.rank) rules)
table_tree_by_cut grow rules region (Some cost) =
    Sides cost.bit
    (grow (side_of_cut rules region cost.bit false) (word_fix_of region cost.bit false))
    (grow (side_of_cut rules region cost.bit true) (word_fix_of region cost.bit true))

-- the tree of the rules of a region, with at most this many cuts on a path
unfoldable pub table_rule_tree_within : ℕ → List Rule → WordValue → LookupTree (List ℕ)
table_rule_tree_within zero rules region = table_tree_by_cut (λ rs r. Leaf []) rules region None
table_rule_tree_within (suc cuts) rules region =
    table_tree_by_cut (table_rule_tree_within cuts) rules region (table_tree_paying_cut (suc cuts) rules region)

-- the tree of a list of rules in a region: at most 12 cuts on a path
unfoldable pub table_rule_tree : List Rule → WordValue → LookupTree (List ℕ)
table_rule_tree rules region = table_rule_tree_within 12 (narrow (table_tree_ranked_rules 0 rules) region) region

-- a region with its tree
pub record TableRegionTree : Type 0 where
  pub region : WordValue
  pub shape : LookupTree (List ℕ)

abbrev pub table_tree_seen : RuleTree → TableRegionTree
table_tree_seen tree = record { region = tree.region; shape = table_tree_rule_shape tree.root }

-- the tree of a partition's rules
abbrev pub part_lookup_tree : Partition → TableRegionTree
part_lookup_tree part = record { region = part.region; shape = table_rule_tree part.rules part.region }
