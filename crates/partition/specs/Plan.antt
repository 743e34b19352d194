-- The plan of a policy on a network: its partitions, each with the switches that decide its headers
-- (the authority switches of Yu, Rexford, Freedman and Wang, "Scalable Flow-Based Networking with
-- DIFANE", SIGCOMM 2010).
use Rattle.std.specs.Prelude.{if◌then◌else◌, ◌<◌, ◌≡◌, ◌≤◌, All, Err, List, Ok, Result, length, map, nat_lt, zip, ℕ}
use Rattle.std.specs.Result.{result_map_both}
use Rattle.cut_tree.specs.Exports.{IsDefinedCutTree, CutTreeShape, cut_leaf_count, cut_tree_of}
use Rattle.net_file.specs.Exports.{IsNet}
use Rattle.net_file.specs.declared.net.Net.{Net}
use Rattle.placement.specs.Placement.{IsPlacement, placement_of}
pub use Rattle.policy_rules.specs.Hosted.{HostedPolicyPartition}
use Rattle.policy_rules.specs.Exports.{AreSoundPolicyPartitions, IsPolicy, LastPolicyRuleCovers, NoPolicyPlan, NoRoom, TooManyLeaves, TooManyWords, policy_rules_of, policy_row_word_total}
use Rattle.policy_rules.specs.declared.policy.Row.{Row}
use Rattle.policy_rules.specs.declared.rules.Partition.{Partition}
use Rattle.policy_rules.specs.declared.rules.Rule.{Rule}
use Rattle.partition.specs.Parts.{partitions_of_cut_tree}

-- how many rules each partition has, and how many each switch has room for
abbrev pub partition_sizes_of : List Partition → List ℕ
partition_sizes_of parts = map (λ part. length part.rules) parts

abbrev pub partition_switch_rooms_of : Net → List ℕ
partition_switch_rooms_of net = map (λ row. row.room) net.switches

-- these partitions, each with the targets that it has on the network
abbrev pub partition_plan_hosted_on : Net → List Partition → Result (List HostedPolicyPartition) NoPolicyPlan
partition_plan_hosted_on net parts =
    result_map_both (zip parts) NoRoom (placement_of (partition_sizes_of parts) (partition_switch_rooms_of net) net.backups)

abbrev pub partition_plan_of_tree : Net → CutTreeShape → Result (List HostedPolicyPartition) NoPolicyPlan
partition_plan_of_tree net tree =
    if nat_lt 512 (cut_leaf_count tree) then Err TooManyLeaves else partition_plan_hosted_on net (partitions_of_cut_tree tree)

-- the plan of a policy: the partitions of its tree, whose cap is the network's `leaf_rules`, hosted
-- by the network's switches
unfoldable pub partition_plan_of : List Row → Net → Result (List HostedPolicyPartition) NoPolicyPlan
partition_plan_of rows net = if nat_lt 4096 (policy_row_word_total rows)
    then Err (TooManyWords (policy_row_word_total rows))
    else partition_plan_of_tree net (cut_tree_of (policy_rules_of rows) net.leaf_rules)

-- the partitions are the leaves of the tree that is defined for the rules with this cap
pub record ArePartitionLeaves (rules : List Rule) (cap : ℕ) (parts : List Partition) : Type 0 where
  pub tree : CutTreeShape
  pub defined : IsDefinedCutTree rules cap tree
  pub leaves : parts ≡ partitions_of_cut_tree tree

-- what is true of each plan
pub record IsPartitionPlan (rows : List Row) (net : Net) (plan : List HostedPolicyPartition) : Type 0 where
  pub parts : ArePartitionLeaves (policy_rules_of rows) net.leaf_rules (map (λ hosted. hosted.0) plan)
  pub sound : AreSoundPolicyPartitions rows (map (λ hosted. hosted.0) plan)
  pub ended : All LastPolicyRuleCovers (map (λ hosted. hosted.0) plan)
  pub few : length plan ≤ 512
  pub leaves : All (λ hosted. length hosted.0.rules ≤ net.leaf_rules) plan
  pub placement : IsPlacement (partition_sizes_of (map (λ hosted. hosted.0) plan)) (partition_switch_rooms_of net) net.backups
      (map (λ hosted. hosted.1) plan)
  pub targets : All (λ hosted. All (λ s. s < length net.switches) hosted.1) plan

pub record PartitionPlanLaws : Type 0 where
  -- its partitions are the leaves of the defined tree; they are sound for the policy and small,
  -- the last rule of each covers its region, and each is hosted by switches with room
  pub holds : (rows : List Row) (net : Net) (plan : List HostedPolicyPartition)
      → IsPolicy rows → IsNet net → partition_plan_of rows net ≡ Ok plan → IsPartitionPlan rows net plan
