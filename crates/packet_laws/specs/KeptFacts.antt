-- The invariants of packets and cache rules that each item keeps, whatever a packet's stage is.
use Rattle.std.specs.Prelude.{◌+◌, ◌<◌, ◌≡◌, ◌≤◌, ◌⊎◌, All, IsFalse, IsTrue, List, None, Option, Some, slice_get, ℕ, ⊤}
use Rattle.update_machine.specs.Exports.{Body, CacheRule, Decision, Header, Item, Message, NamesMachineSettingPort, Seek, Setting, journal_cache_of, journal_current_mark, journal_message_of, journal_next_packet, machine_policy_at}
use Rattle.failover.specs.Exports.{link_set_has}
use Rattle.policy_rules.specs.Exports.{scan}
use Rattle.packet_laws.specs.Rules.{IsRightPacketCacheEntry, IsRightPacketRule}
use Rattle.packet_laws.specs.OnWay.{IsPacketOnWay, IsSoughtByPacket, IsPacketUnderWay, IsUnknownPacket}
use Rattle.packet_laws.specs.Facts.{PacketFacts, packet_facts_of}
use Rattle.packet_laws.specs.Stages.{Blocked, CameIn, Judged, OnWay, PacketStage, packet_stage_of}

-- the route uses none of the links of the set
abbrev pub PacketRouteAvoidsFound : List ℕ → List ℕ → Type 0
PacketRouteAvoidsFound down route = (k one two : ℕ) → slice_get route k ≡ Some one
    → slice_get route (k + 1) ≡ Some two → IsFalse (link_set_has down one two)

-- the packet was decided by the first match of a version that wasn't retired when it entered and
-- is at most the current one
pub record IsPacketRightlyDecided (setting : Setting) (journal : List Item) (facts : PacketFacts)
    (header : Header) : Type 0 where
  pub decision : Decision
  pub decided : facts.decision ≡ Some decision
  pub not_retired : facts.mark < decision.version
  pub current : decision.version ≤ journal_current_mark journal
  pub first_match : scan (machine_policy_at setting journal decision.version) header
      ≡ record { rule = decision.rule; action = decision.action }
  pub named : NamesMachineSettingPort setting decision.action
  pub sought : (version partition : ℕ) → facts.leg ≡ Some (Seek version partition)
      → IsSoughtByPacket setting journal facts.mark header version partition

-- the invariants of a packet with these facts in this stage. It is undecided when it enters, and
-- then decided rightly. It is at its place on a route to a target of its leg, even if it found the
-- next link down. While it is on its way, its route uses no link that it found down
pub record HasKeptPacketFacts (setting : Setting) (journal : List Item) (facts : PacketFacts)
    (stage : Option PacketStage) : Type 0 where
  pub under_way : IsTrue facts.travels → IsPacketUnderWay setting journal facts
  pub came_in : IsTrue facts.travels → stage ≡ Some CameIn
      → (facts.decision ≡ None) × (facts.leg ≡ None)
  pub judged : IsTrue facts.travels → stage ≡ Some Judged
      → (header : Header) → facts.header ≡ Some header → IsPacketRightlyDecided setting journal facts header
  pub on_way : IsTrue facts.travels → (stage ≡ Some OnWay) ⊎ (stage ≡ Some Blocked)
      → IsPacketOnWay setting journal facts
  pub avoids : IsTrue facts.travels → stage ≡ Some OnWay → PacketRouteAvoidsFound facts.found facts.route

-- a cache rule that a body brings is right
abbrev pub BringsRightPacketRule : Setting → List Item → Body → Type 0
BringsRightPacketRule setting journal (CacheRule version word rule action) =
    IsRightPacketRule setting journal version word rule action
BringsRightPacketRule setting journal _ = ⊤

-- this is true of all packets, of those that didn't enter, of all messages sent, and of all caches
pub record AllPacketFactsKept (setting : Setting) (journal : List Item) : Type 0 where
  pub packets : (i : ℕ) → HasKeptPacketFacts setting journal (packet_facts_of journal i) (packet_stage_of journal i)
  pub unknown : (i : ℕ) → journal_next_packet journal ≤ i → IsUnknownPacket (packet_facts_of journal i)
  pub sent : (n : ℕ) (message : Message) → journal_message_of journal n ≡ Some message
      → BringsRightPacketRule setting journal message.body
  pub cached : (s : ℕ) → All (IsRightPacketCacheEntry setting journal) (journal_cache_of setting journal s).entries
