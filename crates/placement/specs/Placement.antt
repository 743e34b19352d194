-- Placement of partitions on authority switches of limited room (the switches that keep a
-- partition's rules: Yu, Rexford, Freedman and Wang, "Scalable Flow-Based Networking with DIFANE",
-- SIGCOMM 2010; the rule of least load is this project's own). A placement gives each partition, by
-- its number, the list of its targets.
use Rattle.std.specs.Prelude.{[], if◌then◌else◌, ◌&&◌, ◌+◌, ◌<◌, ◌==◌, ◌^◌, ◌||◌, ◌∷◌, ◌≡◌, ◌≤◌, All, AllPairs, Bool, Err, IsFalse, IsTrue, List, MatchResult, Ok, Result, filter, length, nat_eq, nat_le, nat_lt, replicate, slice_index, slice_index_or, slice_set, sum, sum_by, take, ℕ}
use Rattle.base.specs.Exports.{list_any, range_with_len}
use Rattle.placement.specs.Order.{in_placement_order}
use Rattle.placement.specs.declared.NoRoom.{NoRoom}
use Rattle.placement.specs.declared.turns.Load.{Load}
use Rattle.placement.specs.declared.turns.Load.TheVariants as load

-- ---- what can be placed

-- partitions whose keys have a sum below 2 ^ 64, on the switches of a network
pub record MayTakePlacementTurns (keys rooms : List ℕ) (backups : ℕ) : Type 0 where
  pub partitions : length keys < 2 ^ 32
  pub switches : length rooms ≤ 64
  pub few : backups ≤ 3
  pub small : sum keys < 2 ^ 64

-- ---- which partition comes first, and what the switches have then

-- partitions come by falling size, then by number
unfoldable pub is_earlier_in_placement : List ℕ → ℕ → ℕ → Bool
is_earlier_in_placement sizes a b =
    nat_lt (slice_index sizes b) (slice_index sizes a)
    || ((slice_index sizes b == slice_index sizes a) && nat_lt a b)

abbrev pub placement_targets_at : List (List ℕ) → ℕ → List ℕ
placement_targets_at placement partition = slice_index_or placement partition []

abbrev pub is_placement_target : List (List ℕ) → ℕ → ℕ → Bool
is_placement_target placement partition switch = list_any (nat_eq switch) (placement_targets_at placement partition)

-- the sum of these numbers over the earlier partitions that load the switch: it is one of the
-- targets that they load
abbrev pub placement_sum_before : (List ℕ → List ℕ) → List ℕ → List ℕ → List (List ℕ) → ℕ → ℕ → ℕ
placement_sum_before loaded keys numbers placement partition switch =
    let loads = λ (other : ℕ).
    is_earlier_in_placement keys other partition && list_any (nat_eq switch) (loaded (placement_targets_at placement other)) in
    sum_by (slice_index numbers) (filter loads (range_with_len 0 (length keys)))

-- ---- which switches a partition is put on

-- the switch has room for this many rules besides those that it has
unfoldable pub placement_has_room : (ℕ → ℕ) → List ℕ → ℕ → ℕ → Bool
placement_has_room held rooms size switch =
    nat_lt switch (length rooms) && nat_le (held switch + size) (slice_index rooms switch)

abbrev pub placement_with_room : (ℕ → ℕ) → List ℕ → ℕ → List ℕ
placement_with_room held rooms size = filter (placement_has_room held rooms size) (range_with_len 0 (length rooms))

-- switches come by load, then by number
unfoldable pub is_lighter_placement_switch : (ℕ → ℕ) → ℕ → ℕ → Bool
is_lighter_placement_switch load a b = nat_lt (load a) (load b) || ((load a == load b) && nat_lt a b)

-- these are the first by load of the switches that have room besides what they have: all other such
-- switches come after all of them
pub record AreLightestPlacementSwitches (held load : ℕ → ℕ) (rooms : List ℕ) (size count : ℕ) (targets : List ℕ)
    : Type 0 where
  pub number : length targets ≡ count
  pub fit : All (λ s. IsTrue (placement_has_room held rooms size s)) targets
  pub rising : AllPairs (λ a b. IsTrue (is_lighter_placement_switch load a b)) targets
  pub least : (other : ℕ) → IsTrue (placement_has_room held rooms size other)
      → IsFalse (list_any (nat_eq other) targets)
      → All (λ s. IsTrue (is_lighter_placement_switch load s other)) targets

-- ---- partitions one after another

-- how partitions take their turns: by falling keys, then by number. Each puts its size on all of
-- its targets, and its key on those that it loads
pub record PlacementTurnRule : Type 0 where
  pub keys : List ℕ
  pub sizes : List ℕ
  pub loaded : List ℕ → List ℕ
  pub rooms : List ℕ
  pub backups : ℕ

-- the targets that a partition loads
abbrev pub placement_loaded_by : Load → List ℕ → List ℕ
placement_loaded_by load.OnAll targets = targets
placement_loaded_by load.OnFirst targets = take 1 targets

abbrev pub placement_turn_rule : Load → List ℕ → List ℕ → List ℕ → ℕ → PlacementTurnRule
placement_turn_rule load keys sizes rooms backups = record {
  keys = keys;
  sizes = sizes;
  loaded = placement_loaded_by load;
  rooms = rooms;
  backups = backups;
}

-- the partition has the targets that its turn gives it: one and the backups, by the rules and the
-- loads that switches have then
abbrev pub HasDuePlacementTargets : PlacementTurnRule → List (List ℕ) → ℕ → Type 0
HasDuePlacementTargets t placement partition =
    AreLightestPlacementSwitches (placement_sum_before (λ targets. targets) t.keys t.sizes placement partition)
    (placement_sum_before t.loaded t.keys t.keys placement partition) t.rooms
    (slice_index t.sizes partition) (1 + t.backups) (placement_targets_at placement partition)

-- each partition has its targets
pub record PlacementHasTargets (t : PlacementTurnRule) (placement : List (List ℕ)) : Type 0 where
  pub number : length placement ≡ length t.keys
  pub hosted : (partition : ℕ) → partition < length t.keys → HasDuePlacementTargets t placement partition

-- the earlier partitions have their targets, and too few switches have room for this one
pub record IsPlacementRefused (t : PlacementTurnRule) (partition : ℕ) : Type 0 where
  pub there : partition < length t.keys
  pub placement : List (List ℕ)
  pub earlier : (other : ℕ) → other < length t.keys → IsTrue (is_earlier_in_placement t.keys other partition)
      → HasDuePlacementTargets t placement other
  pub fewer : (let held = placement_sum_before (λ targets. targets) t.keys t.sizes placement partition in
      length (placement_with_room held t.rooms (slice_index t.sizes partition)) < 1 + t.backups)

-- ---- a placement, and why there is none

-- by falling size; a partition loads each of its targets with its size
abbrev pub placement_turn_rule_by_size : List ℕ → List ℕ → ℕ → PlacementTurnRule
placement_turn_rule_by_size sizes rooms backups = placement_turn_rule load.OnAll sizes sizes rooms backups

abbrev pub IsPlacement : List ℕ → List ℕ → ℕ → List (List ℕ) → Type 0
IsPlacement sizes rooms backups placement = PlacementHasTargets (placement_turn_rule_by_size sizes rooms backups) placement

abbrev pub PlacementLacksRoom : List ℕ → List ℕ → ℕ → ℕ → Type 0
PlacementLacksRoom sizes rooms backups partition = IsPlacementRefused (placement_turn_rule_by_size sizes rooms backups) partition

-- the load of a switch before a partition: the sum of the sizes of the earlier partitions whose
-- targets contain it
unfoldable pub placement_load_before : List ℕ → List (List ℕ) → ℕ → ℕ → ℕ
placement_load_before sizes placement partition switch =
    placement_sum_before (λ targets. targets) sizes sizes placement partition switch

-- ---- the one placement

-- partitions take their targets one after another
abbrev pub placement_from : List ℕ → List ℕ → ℕ → List (List ℕ) → List ℕ → Result (List (List ℕ)) ℕ
placement_from sizes rooms backups placement [] = Ok placement
placement_from sizes rooms backups placement (partition ∷ later) =
    let load = placement_load_before sizes placement partition in
    let found = in_placement_order (is_lighter_placement_switch load) (placement_with_room load rooms (slice_index sizes partition)) in
    let chosen = take (1 + backups) found in
    if nat_lt (length found) (1 + backups)
    then Err partition
    else placement_from sizes rooms backups (slice_set placement partition chosen) later

-- the placement of partitions of these sizes on switches of these rooms, or the first partition
-- that finds too few
unfoldable pub placement_of : List ℕ → List ℕ → ℕ → Result (List (List ℕ)) ℕ
placement_of sizes rooms backups =
    let turns = in_placement_order (is_earlier_in_placement sizes) (range_with_len 0 (length sizes)) in
    placement_from sizes rooms backups (replicate (length sizes) []) turns

-- what the function returns, a placement or a refusal, satisfies its own relation
abbrev pub MeetsPlacement : List ℕ → List ℕ → ℕ → Result (List (List ℕ)) ℕ → Type 0
MeetsPlacement sizes rooms backups answer =
    MatchResult answer (IsPlacement sizes rooms backups) (PlacementLacksRoom sizes rooms backups)

-- why there is no placement
abbrev pub RefusesPlacement : List ℕ → List ℕ → ℕ → NoRoom → Type 0
RefusesPlacement sizes rooms backups lack =
    (placement_of sizes rooms backups ≡ Err lack.partition)
    × PlacementLacksRoom sizes rooms backups lack.partition
