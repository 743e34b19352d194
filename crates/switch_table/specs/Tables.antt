-- The tables of a switch for one version of a policy: partition rules for all headers, authority
-- rules for its own partitions (Yu, Rexford, Freedman and Wang, "Scalable Flow-Based Networking
-- with DIFANE", SIGCOMM 2010).
use Rattle.std.specs.Prelude.{◌<◌, ◌^◌, ◌≡◌, ◌≢◌, All, AllPairs, Bool, IsSome, IsTrue, List, Some, count_by, filter, length, map, nat_eq, slice_get, ℕ}
use Rattle.base.specs.Exports.{list_any}
use Rattle.five_tuple.specs.Exports.{IsHeader, header_number_of}
use Rattle.five_tuple.specs.declared.header.Header.{Header}
use Rattle.ternary.specs.Exports.{holds}
pub use Rattle.policy_rules.specs.Hosted.{HostedPolicyPartition}
use Rattle.policy_rules.specs.Exports.{LastPolicyRuleCovers, first_policy_rule, is_in_policy_partition}
use Rattle.policy_rules.specs.declared.rules.Partition.{Partition}
use Rattle.switch_table.specs.declared.tables.PartRow.{PartRow}
use Rattle.switch_table.specs.declared.tables.Tables.{Tables}

-- the row's region holds this header
abbrev pub switch_table_part_row_has : Header → PartRow → Bool
switch_table_part_row_has header row = holds row.region (header_number_of header)

-- some rule of the partition holds each header of its region, for example if the last one covers it
abbrev pub SwitchTablePartitionDecidesAll : Partition → Type 0
SwitchTablePartitionDecidesAll part =
    (header : Header) → IsHeader header → IsTrue (is_in_policy_partition header part)
    → IsSome (first_policy_rule part.rules header)

-- each header lies in one region; an authority partition has the place of its region as its
-- number, which no other has, and its last rule covers the region; a place has 32 bits
pub record AreSoundSwitchTables (tables : Tables) : Type 0 where
  pub one : (header : Header) → IsHeader header → count_by (switch_table_part_row_has header) tables.parts ≡ 1
  pub numbers : (let regions = map (λ row. row.region) tables.parts in
      All (λ part. slice_get regions part.number ≡ Some part.region) tables.auth)
  pub distinct : AllPairs (λ a b. a.number ≢ b.number) tables.auth
  pub covers : All LastPolicyRuleCovers tables.auth
  pub few_rows : length tables.parts < 2 ^ 32
  pub few_rules : All (λ part. length part.rules < 2 ^ 32) tables.auth

-- ---- the tables of a plan

abbrev pub switch_table_part_of : HostedPolicyPartition → Partition
switch_table_part_of hosted = hosted.0

abbrev pub switch_table_row_of_hosted : HostedPolicyPartition → PartRow
switch_table_row_of_hosted hosted = record { region = hosted.0.region; targets = hosted.1 }

abbrev pub switch_table_part_has_target : ℕ → HostedPolicyPartition → Bool
switch_table_part_has_target switch hosted = list_any (nat_eq switch) hosted.1

-- the tables that a plan gives a switch: all regions with their targets, and exactly the
-- partitions whose targets contain it, in the order of the plan
abbrev pub tables_of : List HostedPolicyPartition → ℕ → ℕ → Tables
tables_of plan version switch = record {
  version = version;
  parts = map switch_table_row_of_hosted plan;
  auth = map switch_table_part_of (filter (switch_table_part_has_target switch) plan);
}
