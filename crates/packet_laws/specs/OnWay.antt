-- A packet on its way: it is at a place on a route that ends at a target of its leg.
use Rattle.std.specs.Prelude.{[], ◌+◌, ◌-◌, ◌<◌, ◌∷◌, ◌≡◌, ◌≤◌, IsTrue, List, None, Option, Some, false, find, length, nat_eq, slice_get, ℕ}
use Rattle.base.specs.Exports.{has, list_any}
use Rattle.failover.specs.Exports.{IsRouteList, no_failover_links}
use Rattle.five_tuple.specs.Exports.{IsHeader}
use Rattle.update_machine.specs.Exports.{Decision, Exit, Header, Item, Leg, Out, Seek, Setting, journal_current_mark, journal_plan_at, journal_retired_mark}
use Rattle.net_file.specs.Exports.{links_of, net_port_owner}
use Rattle.policy_rules.specs.Exports.{is_in_policy_partition}
use Rattle.switch_table.specs.Exports.{HostedPolicyPartition, switch_table_part_of}
use Rattle.packet_laws.specs.Facts.{PacketFacts}

-- ---- routes

-- each switch of the route is joined to the next by a link of the network
abbrev pub PacketRouteFollowsLinks : Setting → List ℕ → Type 0
PacketRouteFollowsLinks setting route = (k one two : ℕ) → slice_get route k ≡ Some one →
    slice_get route (k + 1) ≡ Some two → IsTrue (has (links_of setting.net.links one) two)

-- its last switch is one of the targets
pub record PacketRouteEndsAtTarget (route targets : List ℕ) : Type 0 where
  pub target : ℕ
  pub last : slice_get route (length route - 1) ≡ Some target
  pub own : IsTrue (list_any (nat_eq target) targets)

-- one to 64 distinct switches, each joined to the next, of which the last is one of the targets
pub record PacketRouteLeadsToTarget (setting : Setting) (targets route : List ℕ) : Type 0 where
  pub list : IsRouteList route
  pub joined : PacketRouteFollowsLinks setting route
  pub ends : PacketRouteEndsAtTarget route targets

-- the route begins at this switch
abbrev pub PacketRouteStartsAt : ℕ → List ℕ → Type 0
PacketRouteStartsAt switch route = slice_get route 0 ≡ Some switch

-- ---- legs

-- the partition at this place of the version's plan, which is its number; it is the first whose
-- region holds the header
pub record IsPacketPartitionOf (setting : Setting) (journal : List Item) (header : Header)
    (version partition : ℕ) (hosted : HostedPolicyPartition) : Type 0 where
  pub found : slice_get (journal_plan_at setting journal version) partition ≡ Some hosted
  pub number : hosted.0.number ≡ partition
  pub first : find (λ other. is_in_policy_partition header (switch_table_part_of other)) (journal_plan_at setting journal version)
      ≡ Some hosted
  pub holds : IsTrue (is_in_policy_partition header (switch_table_part_of hosted))

-- a packet of this mark seeks the partition whose region holds its header, by a version that
-- wasn't retired when it entered and is at most the current one
pub record IsSoughtByPacket (setting : Setting) (journal : List Item) (mark : ℕ) (header : Header)
    (version partition : ℕ) : Type 0 where
  pub not_retired : mark < version
  pub current : version ≤ journal_current_mark journal
  pub hosted : HostedPolicyPartition
  pub own : IsPacketPartitionOf setting journal header version partition hosted

-- on its way to an authority the packet is undecided, and its route leads to one of the partition
pub record IsPacketSeeking (setting : Setting) (journal : List Item) (held : Option Decision) (mark : ℕ)
    (route : List ℕ) (header : Header) (version partition : ℕ) : Type 0 where
  pub undecided : held ≡ None
  pub sought : IsSoughtByPacket setting journal mark header version partition
  pub open sought use *
  pub leads : PacketRouteLeadsToTarget setting hosted.1 route

-- on its way out the packet was decided to leave by the port, and its route leads to that switch
pub record IsPacketExiting (setting : Setting) (held : Option Decision) (route : List ℕ) (port : ℕ)
    : Type 0 where
  pub decision : Decision
  pub decided : held ≡ Some decision
  pub action : decision.action ≡ Out port
  pub owner : ℕ
  pub has_port : net_port_owner setting.net.switches port ≡ Some owner
  pub leads : PacketRouteLeadsToTarget setting (owner ∷ []) route

-- the invariants of a packet with this decision, mark and route on this leg
abbrev pub IsPacketBound : Setting → List Item → Option Decision → ℕ → List ℕ → Header → Leg → Type 0
IsPacketBound setting journal held mark route header (Seek version partition) =
    IsPacketSeeking setting journal held mark route header version partition
IsPacketBound setting journal held mark route header (Exit port) = IsPacketExiting setting held route port

abbrev pub IsPacketOnLeg : Setting → List Item → PacketFacts → Header → Leg → Type 0
IsPacketOnLeg setting journal facts header leg =
    IsPacketBound setting journal facts.decision facts.mark facts.route header leg

-- ---- travelling packets

-- the packet entered with a header, at a switch of the network
pub record PacketHasComeIn (setting : Setting) (told : Option Header) (first : Option ℕ) : Type 0 where
  pub header : Header
  pub ingress : ℕ
  pub entered : told ≡ Some header
  pub sound : IsHeader header
  pub came : first ≡ Some ingress
  pub at_first : ingress < length setting.net.switches

-- the packet is at a switch of the network
pub record PacketStandsInNetwork (setting : Setting) (place : Option ℕ) : Type 0 where
  pub switch : ℕ
  pub stands : place ≡ Some switch
  pub now : switch < length setting.net.switches

-- a travelling packet has a header, entered at a switch, and is at one
pub record IsPacketUnderWay (setting : Setting) (journal : List Item) (facts : PacketFacts) : Type 0 where
  pub entry : PacketHasComeIn setting facts.header facts.ingress
  pub open entry use *
  pub place : PacketStandsInNetwork setting facts.stands
  pub open place use *
  pub mark : facts.mark ≤ journal_retired_mark journal

-- a packet on its way also has a leg, and is at its place on the leg's route
pub record IsPacketOnWay (setting : Setting) (journal : List Item) (facts : PacketFacts) : Type 0 where
  pub under_way : IsPacketUnderWay setting journal facts
  pub leg : Leg
  pub takes : facts.leg ≡ Some leg
  pub on_leg : IsPacketOnLeg setting journal facts under_way.header leg
  pub stands : slice_get facts.route facts.hops ≡ Some under_way.switch

-- nothing is known of a packet that didn't enter
pub record IsUnknownPacket (facts : PacketFacts) : Type 0 where
  pub header : facts.header ≡ None
  pub travels : facts.travels ≡ false
  pub decision : facts.decision ≡ None
  pub leg : facts.leg ≡ None
  pub found : facts.found ≡ no_failover_links
