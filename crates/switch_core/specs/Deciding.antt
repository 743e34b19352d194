-- By which rule a switch decides a packet, and the rule that it sends to the cache of the switch
-- where the packet entered (Yu, Rexford, Freedman and Wang, "Scalable Flow-Based Networking with
-- DIFANE", SIGCOMM 2010).
use Rattle.std.specs.Prelude.{[], if◌then◌else◌, ◌==◌, ◌≡◌, IsSomeAnd, IsTrue, List, None, Option, Some, find, position, slice_index_or, unwrap_or, ℕ, ⊤}
use Rattle.five_tuple.specs.Exports.{header_number_of}
use Rattle.five_tuple.specs.declared.header.Header.{Header}
use Rattle.ternary.specs.Exports.{any_word, holds}
use Rattle.policy_rules.specs.Exports.{is_held_by_policy_rule}
use Rattle.policy_rules.specs.declared.policy.Action.TheVariants.{Drop}
use Rattle.policy_rules.specs.declared.packet.How.TheVariants.{Cached, Authority}
use Rattle.policy_rules.specs.declared.rules.Partition.{Partition}
use Rattle.policy_rules.specs.declared.rules.Rule.{Rule}
use Rattle.switch_table.specs.declared.cache.CacheEntry.{CacheEntry}
use Rattle.switch_table.specs.declared.search.Found.{Found}
use Rattle.switch_table.specs.declared.search.Found.TheVariants.{Authority as ByAuthority}
use Rattle.switch_table.specs.declared.tables.Tables.{Tables}
use Rattle.cache_maker.specs.Independent.{widen}
use Rattle.ctrl_msg.specs.declared.message.Body.{Body}
use Rattle.ctrl_msg.specs.declared.message.Body.TheVariants.{CacheRule}
use Rattle.switch_core.specs.declared.deciding.Decision.{Decision}
use Rattle.switch_core.specs.declared.tunnel_calls.Packet.{Packet}

-- ---- rules by their numbers

abbrev pub no_switch_rule : Rule
no_switch_rule = record { word = any_word; rank = 0; rule = None; action = Drop }

abbrev pub no_switch_core_partition : Partition
no_switch_core_partition = record { number = 0; region = any_word; rules = [] }

-- a switch's own partition of this number
abbrev pub switch_own_partition : Tables → ℕ → Option Partition
switch_own_partition tables number = find (λ part. part.number == number) tables.auth

abbrev pub switch_core_partition_numbered : Tables → ℕ → Partition
switch_core_partition_numbered tables number = unwrap_or (switch_own_partition tables number) no_switch_core_partition

abbrev pub switch_core_rule_in : Partition → ℕ → Rule
switch_core_rule_in part place = slice_index_or part.rules place no_switch_rule

-- the place of its first rule that holds the header
abbrev pub switch_own_rule_place : Header → Partition → ℕ
switch_own_rule_place header part = unwrap_or (position (is_held_by_policy_rule (header_number_of header)) part.rules) 0

-- ---- decisions

-- a cached rule decides
abbrev pub switch_decision_by_entry : CacheEntry → Decision
switch_decision_by_entry entry = record {
  version = entry.version;
  rule = entry.rule;
  action = entry.action;
  how = Cached entry.message;
}

-- a rule of a partition decides, at one of its authority switches
abbrev pub switch_decision_by_rule : ℕ → ℕ → ℕ → Rule → Decision
switch_decision_by_rule switch version partition rule = record {
  version = version;
  rule = rule.rule;
  action = rule.action;
  how = Authority switch partition;
}

-- the rule at the place is the first of the partition to hold the header, which is in its region
pub record IsSwitchFirstHit (header : Header) (part : Partition) (place : ℕ) : Type 0 where
  pub region : IsTrue (holds part.region (header_number_of header))
  pub first : position (is_held_by_policy_rule (header_number_of header)) part.rules ≡ Some place

-- an authority rule that a lookup found is the first hit of one of the switch's own partitions
abbrev pub IsSwitchFindingFirstHit : Tables → Header → Found → Type 0
IsSwitchFindingFirstHit tables header (ByAuthority partition place) =
    IsSomeAnd (switch_own_partition tables partition) (λ part. IsSwitchFirstHit header part place)
IsSwitchFindingFirstHit tables header _ = ⊤

-- a packet as it is looked up
abbrev pub switch_packet_to_look_up : ℕ → Header → ℕ → List ℕ → Packet
switch_packet_to_look_up number header ingress down = record {
  number = number;
  header = header;
  ingress = ingress;
  down = down;
}

-- the cache rule of a decision by the rule at a place: none for a packet that entered here
unfoldable pub switch_cache_rule_sent : ℕ → Packet → ℕ → Partition → ℕ → Option Body
switch_cache_rule_sent switch packet version part place =
    let rule = switch_core_rule_in part place in
    let word = widen (header_number_of packet.header) part.region part.rules place in
    if packet.ingress == switch then None else Some (CacheRule version word rule.rule rule.action)
