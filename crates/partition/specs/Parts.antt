-- The partitions of a list of rules, as in Yu, Rexford, Freedman and Wang, "Scalable Flow-Based
-- Networking with DIFANE", SIGCOMM 2010.
use Rattle.std.specs.Prelude.{◌≡◌, ◌≤◌, All, IsTrue, List, count_by, length, map, option_map, ℕ}
use Rattle.std.specs.List.{enumerate_from}
use Rattle.five_tuple.specs.declared.header.Header.{Header}
use Rattle.ternary.specs.Exports.{WordValue}
use Rattle.policy_rules.specs.Exports.{first_policy_rule, policy_hit_of_rule, is_in_policy_partition}
use Rattle.policy_rules.specs.declared.rules.Partition.{Partition}
use Rattle.policy_rules.specs.declared.rules.Rule.{Rule}
use Rattle.cut_tree.specs.Exports.{CutTreeShape, cut_leaves_of, cut_tree_of}

abbrev pub partition_numbered : ℕ × (WordValue × List Rule) → Partition
partition_numbered (number, leaf) = record { number = number; region = leaf.0; rules = leaf.1 }

-- leaves as partitions with numbers from this one on
unfoldable pub partitions_from : ℕ → List (WordValue × List Rule) → List Partition
partitions_from number leaves = map partition_numbered (enumerate_from number leaves)

-- the partitions of a tree: its leaves, low side before high side, numbered from 0
abbrev pub partitions_of_cut_tree : CutTreeShape → List Partition
partitions_of_cut_tree tree = partitions_from 0 (cut_leaves_of tree)

-- the partitions of a list of rules with this cap
abbrev pub partitions_of : List Rule → ℕ → List Partition
partitions_of rules most = partitions_of_cut_tree (cut_tree_of rules most)

-- the rules of the partition decide the header as these rules do
abbrev pub PartitionDecidesAs : List Rule → Header → Partition → Type 0
PartitionDecidesAs rules header part =
    option_map policy_hit_of_rule (first_policy_rule part.rules header)
    ≡ option_map policy_hit_of_rule (first_policy_rule rules header)

-- each header lies in exactly one region, whose rules decide it as the whole list does
pub record PartitionsDecideAs (rules : List Rule) (parts : List Partition) : Type 0 where
  pub one : (header : Header) → count_by (is_in_policy_partition header) parts ≡ 1
  pub decides : (header : Header) →
      All (λ part. IsTrue (is_in_policy_partition header part) → PartitionDecidesAs rules header part) parts
  -- no partition has more rules than the list
  pub few : All (λ part. length part.rules ≤ length rules) parts
