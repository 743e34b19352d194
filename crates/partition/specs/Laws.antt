-- The laws of partitions: `partition_laws` of the crate ensures the record.
use Rattle.std.specs.Prelude.{◌<◌, All, List, ℕ}
use Rattle.policy_rules.specs.Exports.{AreSoundPolicyPartitions, IsPolicy, LastPolicyRuleCovers, policy_rules_of}
use Rattle.policy_rules.specs.declared.policy.Row.{Row}
use Rattle.policy_rules.specs.declared.rules.Rule.{Rule}
use Rattle.cut_tree.specs.Exports.{AreCutRuleWords}
use Rattle.partition.specs.Parts.{PartitionsDecideAs, partitions_of}

pub record PartitionLaws : Type 0 where
  -- the partitions of a list decide each header as the list does
  pub decide : (rules : List Rule) (cap : ℕ) → 0 < cap → AreCutRuleWords rules →
      PartitionsDecideAs rules (partitions_of rules cap)
  -- those of a policy's rules are sound for the policy
  pub sound : (rows : List Row) (cap : ℕ) → 0 < cap → IsPolicy rows →
      AreSoundPolicyPartitions rows (partitions_of (policy_rules_of rows) cap)
  -- the last rule of each covers its region
  pub ended : (rows : List Row) (cap : ℕ) → 0 < cap → IsPolicy rows →
      All LastPolicyRuleCovers (partitions_of (policy_rules_of rows) cap)
