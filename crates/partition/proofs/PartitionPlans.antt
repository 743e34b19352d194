-- What is true of each plan.
use Rattle.std.proofs.Common.{[], ◌+◌, ◌<◌, ◌∙◌, ◌∷◌, ◌≡◌, ◌≤◌, All, Bool, Err, List, Ok, Result, ap, arith, cond, false, get_or, length, ltb, map, subst, suc, sym, true, zip, ℕ, rules}
use Rattle.std.specs.Result.{result_map_both}
use Rattle.std.proofs.lemmas.Bool.Decides.{nat_tests}
use Rattle.std.proofs.lemmas.List.{length-map}
use Rattle.std.proofs.lemmas.List.Elements.{All-nil, All-cons, All-append, All-same, All-weaker, All-from_get_or}
use Rattle.std.proofs.lemmas.Slice.Zip.{length-zip, firsts-zip, get_or-zip, seconds-zip}
use Rattle.cut_tree.specs.Exports.{End, IsDefinedCutTree, IsCutTreeOf, Node, CutTreeShape, cut_leaf_count, cut_leaves_of, side_of_cut, cut_tree_of}
use Rattle.cut_tree.proofs.CutTreeCallerLemmas.{tree_defined}
use Rattle.net_file.specs.Exports.{IsNet}
use Rattle.net_file.specs.declared.net.Net.{Net}
use Rattle.placement.specs.Placement.{IsPlacement, MeetsPlacement, placement_of}
use Rattle.placement.proofs.PlacementCallerLemmas.{first_there, placement_meets}
use Rattle.ternary.specs.Exports.{WordValue, any_word, word_fix_of}
use Rattle.policy_rules.specs.Exports.{IsPolicy, NoRoom, TooManyLeaves, TooManyWords, policy_rules_of, policy_row_word_total}
use Rattle.policy_rules.specs.declared.policy.Row.{Row}
use Rattle.policy_rules.specs.declared.rules.Partition.{Partition}
use Rattle.policy_rules.specs.declared.rules.Rule.{Rule}
use Rattle.policy_rules.proofs.PolicyRulesCallerLemmas.{IsRuleList-rules_of, cond_if_above, cond_if_below}
use Rattle.partition.specs.Parts.{partitions_from, partitions_of_cut_tree}
use Rattle.partition.specs.Plan.{IsPartitionPlan, HostedPolicyPartition, partition_plan_hosted_on, partition_plan_of, partition_plan_of_tree, partition_switch_rooms_of, partition_sizes_of}
use Rattle.partition.proofs.EndLemmas.{parts_ended}
use Rattle.partition.proofs.PartLemmas.{numbered_length, numbered_more, numbered_none, parts_sound}

-- ---- leaves are small

abbrev IsSmall : ℕ → Partition → Type 0
IsSmall most part = length part.rules ≤ most

abbrev IsSmallLeaf : ℕ → WordValue × List Rule → Type 0
IsSmallLeaf most leaf = length leaf.1 ≤ most

small_leaves : (tree : CutTreeShape) (rules : List Rule) (region : WordValue) (most : ℕ)
    → IsCutTreeOf rules region most tree → All (IsSmallLeaf most) (cut_leaves_of tree)
small_leaves (End r rs) rules region most is =
    let small : length rs ≤ most = omega (arith, is.few, ap length is.same_rules) in
    All-cons (IsSmallLeaf most) (r, rs) [] small (All-nil (IsSmallLeaf most))
small_leaves (Node bit low high) rules region most is =
    All-append (IsSmallLeaf most) (cut_leaves_of low) (cut_leaves_of high)
    (small_leaves low (side_of_cut rules region bit false) (word_fix_of region bit false) most is.1)
    (small_leaves high (side_of_cut rules region bit true) (word_fix_of region bit true) most is.2)

small_parts : (most number : ℕ) (leaves : List (WordValue × List Rule))
    → All (IsSmallLeaf most) leaves → All (IsSmall most) (partitions_from number leaves)
small_parts most number [] all = search (rules, All-same, numbered_none)
small_parts most number (leaf ∷ leaves) all = All-same (IsSmall most) _ _
    (numbered_more number leaf leaves) (All-cons (IsSmall most) _ _ (all 0 leaf (omega arith))
    (small_parts most (number + 1) leaves (λ k d within. all (suc k) d (omega arith))))

-- ---- what a plan is made of

-- the tree and the placement of a plan
record IsMadeOf (rows : List Row) (net : Net) (plan : List HostedPolicyPartition) (tree : CutTreeShape) : Type 0 where
  pub few : cut_leaf_count tree ≤ 512
  pub targets : List (List ℕ)
  pub chosen : placement_of (partition_sizes_of (partitions_of_cut_tree tree)) (partition_switch_rooms_of net) net.backups ≡ Ok targets
  pub pairs : zip (partitions_of_cut_tree tree) targets ≡ plan

hosted_by : (parts : List Partition) (plan : List HostedPolicyPartition) (answer : Result (List (List ℕ)) ℕ)
    → result_map_both (zip parts) NoRoom answer ≡ Ok plan → (targets : List (List ℕ))
    × (answer ≡ Ok targets) × (zip parts targets ≡ plan)
hosted_by parts plan answer is = search rules

made_by : (rows : List Row) (net : Net) (plan : List HostedPolicyPartition) (tree : CutTreeShape) (many : Bool)
    → ltb 512 (cut_leaf_count tree) ≡ many
    → cond many (Err TooManyLeaves) (partition_plan_hosted_on net (partitions_of_cut_tree tree)) ≡ Ok plan
    → IsMadeOf rows net plan tree
made_by rows net plan tree many test is = search (rules, nat_tests, hosted_by)

worded_by : (rows : List Row) (net : Net) (plan : List HostedPolicyPartition) (tree : CutTreeShape) (many : Bool)
    → cond many (Err (TooManyWords (policy_row_word_total rows))) (partition_plan_of_tree net tree) ≡ Ok plan
    → IsMadeOf rows net plan tree
worded_by rows net plan tree many is = search rules

made_of : (rows : List Row) (net : Net) (plan : List HostedPolicyPartition) → partition_plan_of rows net ≡ Ok plan
    → IsMadeOf rows net plan (cut_tree_of (policy_rules_of rows) net.leaf_rules)
unfolding partition_plan_of
made_of rows net plan is = search rules

-- ---- what is true of it

placement_there : (sizes rooms : List ℕ) (backups : ℕ) (targets : List (List ℕ))
    → placement_of sizes rooms backups ≡ Ok targets → IsPlacement sizes rooms backups targets
placement_there sizes rooms backups targets is = let P : Result (List (List ℕ)) ℕ → Type 0 =
    MeetsPlacement sizes rooms backups in rw is at (placement_meets sizes rooms backups)

abbrev AreThere : Net → List ℕ → Type 0
AreThere net switches = All (λ s. s < length net.switches) switches

targets_there : (net : Net) (sizes : List ℕ) (targets : List (List ℕ))
    → IsPlacement sizes (partition_switch_rooms_of net) net.backups targets → All (AreThere net) targets
targets_there net sizes targets placement = All-from_get_or (AreThere net) targets []
    (λ i within. let hosted = placement.hosted i (omega (arith, within, placement.number)) in
    All-weaker (λ s. s < length (partition_switch_rooms_of net)) (λ s. s < length net.switches)
    (λ s here. omega (arith, here, length-map net.switches (λ row. row.room)))
    _ (first_there _ _ (partition_switch_rooms_of net) (get_or sizes i 0) (1 + net.backups) _ hosted))

-- pairs of these partitions with these targets are a plan
zip_holds : (rows : List Row) (net : Net) (tree : CutTreeShape) (targets : List (List ℕ)) → IsPolicy rows
    → IsDefinedCutTree (policy_rules_of rows) net.leaf_rules tree → cut_leaf_count tree ≤ 512
    → IsPlacement (partition_sizes_of (partitions_of_cut_tree tree)) (partition_switch_rooms_of net) net.backups targets
    → IsPartitionPlan rows net (zip (partitions_of_cut_tree tree) targets)
zip_holds rows net tree targets policy defined few placement =
    let parts = partitions_of_cut_tree tree in
    let count = placement.number ∙ length-map parts (λ part. length part.rules) in
    let firsts : map (λ (p : HostedPolicyPartition). p.0) (zip parts targets) ≡ parts = firsts-zip parts targets
    count in
    let seconds : map (λ (p : HostedPolicyPartition). p.1) (zip parts targets) ≡ targets = seconds-zip parts
    targets count in
    let pairs : length (zip parts targets) ≡ length parts =
    grind (arith, length-zip parts targets, count) in
    let small = small_parts net.leaf_rules 0 (cut_leaves_of tree)
    (small_leaves tree (policy_rules_of rows) any_word net.leaf_rules defined) in
    let there = targets_there net (partition_sizes_of parts) targets placement in record {
      parts = record { tree = tree; defined = defined; leaves = firsts };
      sound = rw firsts (parts_sound rows net.leaf_rules tree policy defined);
      ended = rw firsts (parts_ended rows net.leaf_rules tree policy defined);
      few = omega (arith, pairs, numbered_length 0 (cut_leaves_of tree), few);
      leaves = λ k d within. let here : k < length parts = omega (arith, within, pairs) in
          rw (get_or-zip parts targets k d here (omega (arith, here, count))) (small k d.0 here);
      placement = rw (firsts, seconds) placement;
      targets = λ k d within. let here : k < length parts = omega (arith, within, pairs) in
          let goes : k < length targets = omega (arith, here, count) in
          rw (get_or-zip parts targets k d here goes) (there k d.1 goes);
    }

pub plan_holds : (rows : List Row) (net : Net) (plan : List HostedPolicyPartition) → IsPolicy rows → IsNet net
    → partition_plan_of rows net ≡ Ok plan → IsPartitionPlan rows net plan
plan_holds rows net plan policy network is =
    let made = made_of rows net plan is in
    let tree = cut_tree_of (policy_rules_of rows) net.leaf_rules in
    let defined = tree_defined (policy_rules_of rows) net.leaf_rules (omega (arith, network.some_rules))
    (IsRuleList-rules_of rows policy).words in
    let placement = placement_there (partition_sizes_of (partitions_of_cut_tree tree)) (partition_switch_rooms_of net) net.backups
    made.targets made.chosen in
    let P : List HostedPolicyPartition → Type 0 = IsPartitionPlan rows net in
    subst P made.pairs (zip_holds rows net tree made.targets policy defined made.few placement)

-- ---- the way to a plan

pub parts_small : (rules : List Rule) (most : ℕ) (tree : CutTreeShape) → IsDefinedCutTree rules most tree
    → All (λ part. length part.rules ≤ most) (partitions_of_cut_tree tree)
parts_small rules most tree is = search (rules, small_parts, small_leaves)

pub no_words : (rows : List Row) (net : Net) → 4096 < policy_row_word_total rows
    → partition_plan_of rows net ≡ Err (TooManyWords (policy_row_word_total rows))
unfolding partition_plan_of
no_words rows net many = cond_if_below 4096 (policy_row_word_total rows) _ _ many

worded : (rows : List Row) (net : Net) → policy_row_word_total rows ≤ 4096
    → partition_plan_of rows net ≡ partition_plan_of_tree net (cut_tree_of (policy_rules_of rows) net.leaf_rules)
unfolding partition_plan_of
worded rows net few = cond_if_above 4096 (policy_row_word_total rows) _ _ few

pub no_leaves : (rows : List Row) (net : Net) → policy_row_word_total rows ≤ 4096
    → 512 < cut_leaf_count (cut_tree_of (policy_rules_of rows) net.leaf_rules)
    → partition_plan_of rows net ≡ Err TooManyLeaves
no_leaves rows net few many = worded rows net few
    ∙ cond_if_below 512 (cut_leaf_count (cut_tree_of (policy_rules_of rows) net.leaf_rules)) _ _ many

pub hosted_plan : (rows : List Row) (net : Net) (tree : CutTreeShape) → policy_row_word_total rows ≤ 4096
    → tree ≡ cut_tree_of (policy_rules_of rows) net.leaf_rules → cut_leaf_count tree ≤ 512
    → partition_plan_of rows net ≡ partition_plan_hosted_on net (partitions_of_cut_tree tree)
hosted_plan rows net tree few is small =
    worded rows net few ∙ sym (ap (partition_plan_of_tree net) is) ∙ cond_if_above 512 (cut_leaf_count tree) _ _ small

pub no_room : (rows : List Row) (net : Net) (tree : CutTreeShape) (number : ℕ) → policy_row_word_total rows ≤ 4096
    → tree ≡ cut_tree_of (policy_rules_of rows) net.leaf_rules → cut_leaf_count tree ≤ 512
    → placement_of (partition_sizes_of (partitions_of_cut_tree tree)) (partition_switch_rooms_of net) net.backups ≡ Err number
    → partition_plan_of rows net ≡ Err (NoRoom number)
no_room rows net tree number few is small none = cc (hosted_plan rows net tree few is small, none)

pub planned : (rows : List Row) (net : Net) (tree : CutTreeShape) (targets : List (List ℕ))
    → policy_row_word_total rows ≤ 4096 → tree ≡ cut_tree_of (policy_rules_of rows) net.leaf_rules → cut_leaf_count tree ≤ 512
    → placement_of (partition_sizes_of (partitions_of_cut_tree tree)) (partition_switch_rooms_of net) net.backups ≡ Ok targets
    → partition_plan_of rows net ≡ Ok (zip (partitions_of_cut_tree tree) targets)
planned rows net tree targets few is small hosted = search (rules, hosted_plan, NoRoom)
