-- How many packets of a play the authorities of each partition decided, and the load of a
-- placement: packets go to a partition's first target, and each target has its rules. A placement
-- gives each partition, by its number, the list of its targets.
use Rattle.std.specs.Prelude.{if◌then◌else◌, ◌+◌, ◌<◌, ◌==◌, ◌≡◌, ◌≤◌, All, AllPairs, Bool, List, None, Option, Some, count_by, filter, filter_map, fold, length, map, max, nat_eq, not, slice_index, sum, sum_by, take, ℕ}
use Rattle.base.specs.Exports.{div_ceil, list_any, range_with_len}
use Rattle.update_machine.specs.Exports.{How, Item, journal_current_mark}
use Rattle.journal.specs.declared.item.Item.TheVariants as item
use Rattle.placement.specs.Placement.{is_placement_target, placement_targets_at}
use Rattle.policy_rules.specs.declared.packet.How.TheVariants as how

-- ---- how often a partition's authorities decided

abbrev pub rebalance_weighed_partition : How → Option ℕ
rebalance_weighed_partition (how.Authority switch partition) = Some partition
rebalance_weighed_partition (how.Cached message) = None

-- the partition whose authority decided a packet by this version, if the item says so
abbrev pub rebalance_weighed_partition_in : ℕ → Item → Option ℕ
rebalance_weighed_partition_in version (item.Decided packet used rule action how) =
    if used == version then rebalance_weighed_partition how else None
rebalance_weighed_partition_in version _ = None

-- the partitions whose authorities decided by this version, one for each decision
abbrev pub rebalance_weighed_partitions : ℕ → List Item → List ℕ
rebalance_weighed_partitions version journal = filter_map (rebalance_weighed_partition_in version) journal

-- how often the partition's authorities decided, by the version that is current at the end
unfoldable pub weight : List Item → ℕ → ℕ
weight journal partition = count_by (nat_eq partition) (rebalance_weighed_partitions (journal_current_mark journal) journal)

-- the weights of this many partitions, by their numbers
abbrev pub rebalance_weights_of : List Item → ℕ → List ℕ
rebalance_weights_of journal parts = map (weight journal) (range_with_len 0 parts)

-- ---- the load of a placement

-- the switch is the first target of the partition
abbrev pub is_rebalance_primary_target : List (List ℕ) → ℕ → ℕ → Bool
is_rebalance_primary_target placement partition switch =
    list_any (nat_eq switch) (take 1 (placement_targets_at placement partition))

-- the sum of the weights of the partitions whose first target the switch is
abbrev pub rebalance_traffic : List ℕ → List (List ℕ) → ℕ → ℕ
rebalance_traffic weights placement switch =
    sum_by (slice_index weights)
    (filter (λ partition. is_rebalance_primary_target placement partition switch)
    (range_with_len 0 (length weights)))

-- the sum of the sizes, in rules, of the partitions of which the switch is a target
abbrev pub rebalance_rules_at : List ℕ → List (List ℕ) → ℕ → ℕ
rebalance_rules_at sizes placement switch =
    sum_by (slice_index sizes)
    (filter (λ partition. is_placement_target placement partition switch) (range_with_len 0 (length sizes)))

-- the greatest of numbers; 0 for none
abbrev pub rebalance_greatest : List ℕ → ℕ
rebalance_greatest numbers = fold max 0 numbers

-- the greatest traffic of this many switches
unfoldable pub rebalance_greatest_traffic : ℕ → List ℕ → List (List ℕ) → ℕ
rebalance_greatest_traffic switches weights placement =
    rebalance_greatest (map (rebalance_traffic weights placement) (range_with_len 0 switches))

-- the greatest traffic of any switch: switches have numbers below 64
abbrev pub peak : List ℕ → List (List ℕ) → ℕ
peak weights placement = rebalance_greatest_traffic 64 weights placement

-- how many of these rooms have space for a rule
abbrev pub rebalance_usable_rooms : List ℕ → ℕ
rebalance_usable_rooms rooms = count_by (λ room. not (room == 0)) rooms

-- the bound of the peak: the greatest weight or, if greater, an even share for switches with room
unfoldable pub bound : List ℕ → List ℕ → ℕ
bound weights rooms = if rebalance_usable_rooms rooms == 0
    then 0 else max (rebalance_greatest weights) (div_ceil (sum weights) (rebalance_usable_rooms rooms))

-- ---- where there is room

-- each partition has one and this many more different targets that exist, and no switch has more
-- rules than room
pub record RebalanceFits (sizes rooms : List ℕ) (backups : ℕ) (placement : List (List ℕ)) : Type 0 where
  pub number : length placement ≡ length sizes
  pub targets : (partition : ℕ) → partition < length sizes
      → length (placement_targets_at placement partition) ≡ 1 + backups
  pub different : (partition : ℕ) → partition < length sizes
      → AllPairs (λ a b. a ≡ b → ⊥) (placement_targets_at placement partition)
  pub there : (partition : ℕ) → partition < length sizes
      → All (λ switch. switch < length rooms) (placement_targets_at placement partition)
  pub within : (switch : ℕ) → rebalance_rules_at sizes placement switch ≤ slice_index rooms switch
