-- First tier. A plan has partitions with their targets, as in Yu, Rexford, Freedman and Wang,
-- "Scalable Flow-Based Networking with DIFANE", SIGCOMM 2010.
use Rattle.std.specs.Prelude.{Bool, List, ℕ}
use Rattle.five_tuple.specs.Exports.{header_number_of}
use Rattle.five_tuple.specs.declared.header.Header.{Header}
use Rattle.ternary.specs.Exports.{holds}
use Rattle.policy_rules.specs.declared.rules.Partition.{Partition}

-- the region of the partition holds this header
abbrev pub is_in_policy_partition : Header → Partition → Bool
is_in_policy_partition header part = holds part.region (header_number_of header)

-- a partition with its targets: the switches that decide its headers
abbrev pub HostedPolicyPartition : Type 0
HostedPolicyPartition = Partition × List ℕ

-- why a policy has no plan on a network
pub data NoPolicyPlan : Type 0 where
  -- its rows have this many words, which are more than 4,096
  TooManyWords : ℕ → NoPolicyPlan
  -- its tree has more than 512 leaves
  TooManyLeaves : NoPolicyPlan
  -- too few switches have room for the partition of this number
  NoRoom : ℕ → NoPolicyPlan
