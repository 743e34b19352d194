-- What the tables and the cache of a switch say about a header: cached rules first, then authority
-- rules, then partition rules (Yu, Rexford, Freedman and Wang, "Scalable Flow-Based Networking
-- with DIFANE", SIGCOMM 2010).
use Rattle.std.specs.Prelude.{[], if◌then◌else◌, ◌<◌, ◌^◌, ◌≡◌, All, List, Option, Some, find, length, map, option_and_then, option_map, position, slice_get, unwrap_or, ℕ}
use Rattle.base.specs.Exports.{option_map_or}
use Rattle.five_tuple.specs.Exports.{IsHeader, header_number_of}
use Rattle.five_tuple.specs.declared.header.Header.{Header}
use Rattle.policy_rules.specs.Exports.{AreSoundPolicyPartitions, LastPolicyRuleCovers, policy_hit_of_rule, is_held_by_policy_rule, is_in_policy_partition, scan}
use Rattle.policy_rules.specs.declared.policy.Row.{Row}
use Rattle.policy_rules.specs.declared.rules.Partition.{Partition}
use Rattle.policy_rules.specs.declared.rules.Rule.{Rule}
use Rattle.switch_table.specs.Cache.{first_cache_entry}
use Rattle.switch_table.specs.Tables.{AreSoundSwitchTables, SwitchTablePartitionDecidesAll, HostedPolicyPartition, switch_table_part_has_target, switch_table_part_of, switch_table_part_row_has, tables_of}
use Rattle.switch_table.specs.declared.cache.CacheEntry.{CacheEntry}
use Rattle.switch_table.specs.declared.tables.PartRow.{PartRow}
use Rattle.switch_table.specs.declared.tables.Tables.{Tables}
use Rattle.switch_table.specs.declared.search.Found.{Found}
use Rattle.switch_table.specs.declared.search.Found.TheVariants.{Cached, Authority, Redirect}

-- the first rule of the partition that holds the header, by its place
abbrev pub switch_table_authority_of : Header → Partition → Found
switch_table_authority_of header part =
    Authority part.number (unwrap_or (position (is_held_by_policy_rule (header_number_of header)) part.rules) 0)

-- the row that holds the header: its place, and its targets
abbrev pub switch_table_redirect_of : Header → List PartRow → Found
switch_table_redirect_of header rows =
    Redirect (unwrap_or (position (switch_table_part_row_has header) rows) 0)
    (option_map_or (λ row. row.targets) (find (switch_table_part_row_has header) rows) [])

-- what the tables say about the header
abbrev pub switch_table_lookup : Tables → Header → Found
switch_table_lookup tables header =
    option_map_or (switch_table_authority_of header) (find (is_in_policy_partition header) tables.auth)
    (switch_table_redirect_of header tables.parts)

-- what a cache of these entries and the tables say about the header: an entry of another version
-- says nothing
abbrev pub switch_table_lookup_of : List CacheEntry → Tables → Header → Found
switch_table_lookup_of entries tables header =
    option_map_or Cached (first_cache_entry tables.version (header_number_of header) entries)
    (switch_table_lookup tables header)

-- ---- where a plan's tables lead

-- the partition decides the header at its targets; every other switch sends it to them
abbrev pub switch_table_lookup_in : ℕ → Header → HostedPolicyPartition → Found
switch_table_lookup_in switch header hosted = if switch_table_part_has_target switch hosted
    then switch_table_authority_of header (switch_table_part_of hosted) else Redirect hosted.0.number hosted.1

-- what a plan says about the header at a switch, by the partition that holds it
abbrev pub switch_table_lookup_in_plan : List HostedPolicyPartition → ℕ → Header → Option Found
switch_table_lookup_in_plan plan switch header =
    option_map (switch_table_lookup_in switch header) (find (λ hosted. is_in_policy_partition header (switch_table_part_of hosted)) plan)

-- the rule at a place of the partition of a number
abbrev pub switch_table_rule_at : List Partition → ℕ → ℕ → Option Rule
switch_table_rule_at parts partition place =
    option_and_then (λ part. slice_get part.rules place) (slice_get parts partition)

-- an authority rule decides the header as the policy's first match does
abbrev pub SwitchTableFindsFirstMatch : List Row → List Partition → Header → Found → Type 0
SwitchTableFindsFirstMatch rows parts header (Authority partition place) =
    option_map policy_hit_of_rule (switch_table_rule_at parts partition place) ≡ Some (scan rows header)
SwitchTableFindsFirstMatch rows parts header _ = ⊥

-- there are targets, and the tables of each of them decide the header
pub record AllSwitchTableLookupsDecide (rows : List Row) (plan : List HostedPolicyPartition) (version : ℕ) (header : Header)
    (targets : List ℕ) : Type 0 where
  pub some : 0 < length targets
  pub each : All (λ switch. SwitchTableFindsFirstMatch rows (map switch_table_part_of plan) header
      (switch_table_lookup (tables_of plan version switch) header)) targets

-- the tables decide the header, or send it to targets that all do
abbrev pub SwitchTablesReachFirstMatch : List Row → List HostedPolicyPartition → ℕ → Header → Found → Type 0
SwitchTablesReachFirstMatch rows plan version header (Redirect partition targets) =
    AllSwitchTableLookupsDecide rows plan version header targets
SwitchTablesReachFirstMatch rows plan version header found = SwitchTableFindsFirstMatch rows (map switch_table_part_of plan) header found

pub record SwitchTablesLaws : Type 0 where
  -- the authority rules of sound tables decide each header of their regions
  pub decided : (tables : Tables) → AreSoundSwitchTables tables → All SwitchTablePartitionDecidesAll tables.auth
  -- tables of a plan of sound partitions, whose last rules cover their regions, are sound ..
  pub sound : (rows : List Row) (plan : List HostedPolicyPartition) (version switch : ℕ)
      → AreSoundPolicyPartitions rows (map switch_table_part_of plan) → All LastPolicyRuleCovers (map switch_table_part_of plan)
      → length plan < 2 ^ 32 → All (λ hosted. length hosted.0.rules < 2 ^ 32) plan
      → AreSoundSwitchTables (tables_of plan version switch)
  -- .. and lead each header to the policy's first match, at each switch and at each target
  pub leads : (rows : List Row) (plan : List HostedPolicyPartition) (version switch : ℕ) (header : Header)
      → AreSoundPolicyPartitions rows (map switch_table_part_of plan) → All (λ hosted. 0 < length hosted.1) plan
      → IsHeader header
      → SwitchTablesReachFirstMatch rows plan version header (switch_table_lookup (tables_of plan version switch) header)
  -- .. and say what the plan says: the number of the partition that holds the header, and its rule
  -- or its targets
  pub planned : (rows : List Row) (plan : List HostedPolicyPartition) (version switch : ℕ) (header : Header) →
      AreSoundPolicyPartitions rows (map switch_table_part_of plan) → IsHeader header →
      switch_table_lookup_in_plan plan switch header ≡ Some (switch_table_lookup (tables_of plan version switch) header)
