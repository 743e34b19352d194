-- The plan of a policy on the network of one switch.
use Rattle.std.proofs.Common.{[], ◌&&◌, ◌+◌, ◌∷◌, ◌≡◌, ◌≤◌, Bool, List, Ok, arith, false, leb, length, refl, true, ℕ}
use Rattle.base.proofs.Exports.{nat_tests}
use Rattle.net_file.specs.Exports.{net_of_one_switch}
use Rattle.cut_tree.specs.Exports.{End, IsDefinedCutTree, CutTreeLaws, cut_tree_of}
use Rattle.partition.specs.Parts.{partitions_from}
use Rattle.partition.specs.Plan.{partition_plan_of}
use Rattle.partition.proofs.PartitionCallerLemmas.{planned}
use Rattle.placement.specs.Order.{in_placement_order}
use Rattle.placement.specs.Placement.{placement_has_room, is_earlier_in_placement, placement_load_before, placement_of}
use Rattle.policy_rules.specs.Exports.{IsPolicy, PolicyRuleListLaws, policy_rules_of, policy_row_word_total}
use Rattle.update_machine.specs.Exports.{Row}
use Rattle.ternary.specs.Exports.{any_word}

and_false : (b : Bool) → (b && false) ≡ false
and_false true = refl
and_false false = refl

-- before the only partition the only switch holds nothing
no_load : (size : ℕ) → placement_load_before (size ∷ []) ([] ∷ []) 0 0 ≡ 0
unfolding placement_load_before
no_load size = rw (and_false (is_earlier_in_placement (size ∷ []) 0 0)) refl

-- it goes to the only switch, which has room for it
only_target : (size : ℕ) → size ≤ 8192 → placement_of (size ∷ []) (8192 ∷ []) 0 ≡ Ok ((0 ∷ []) ∷ [])
unfolding placement_of in_placement_order placement_has_room
only_target size few =
    let room : leb (0 + size) 8192 ≡ true = grind (arith, nat_tests) in rw (no_load size, room) refl

pub one_partition : PolicyRuleListLaws → CutTreeLaws → (rows : List Row) → IsPolicy rows
    → policy_row_word_total rows ≤ 4096 → partition_plan_of rows net_of_one_switch
    ≡ Ok ((record { number = 0; region = any_word; rules = policy_rules_of rows }, 0 ∷ []) ∷ [])
unfolding partitions_from
one_partition lists trees rows policy few =
    let rules = policy_rules_of rows in
    let count : length rules ≡ policy_row_word_total rows + 1 = lists.count rows policy in
    let small : length rules ≤ 8192 = omega arith in
    let leaf : IsDefinedCutTree rules 8192 (End any_word rules) =
    record { same_region = refl; same_rules = refl; few = small } in
    let defined : IsDefinedCutTree rules 8192 (cut_tree_of rules 8192) = trees.exists rules 8192
    (omega arith) (lists.list rows policy).words in
    let tree : End any_word rules ≡ cut_tree_of rules 8192 = trees.only rules 8192 (End any_word rules)
    (cut_tree_of rules 8192) leaf defined in
    planned rows net_of_one_switch (End any_word rules) ((0 ∷ []) ∷ []) few tree (omega arith)
    (only_target (length rules) small)
