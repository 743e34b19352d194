-- What is true of a travelling packet between steps, and of cache rules at any time.
use Rattle.std.specs.Prelude.{◌<◌, ◌≡◌, ◌⊎◌, All, IsTrue, List, Some, length, ℕ}
use Rattle.update_machine.specs.Exports.{Item, Message, Seek, Setting, journal_cache_of, journal_found_down, holds_version, journal_leg_of, journal_message_of, journal_route_in, serves, journal_stamp_of, travels_in_journal}
use Rattle.packet_laws.specs.Rules.{IsRightPacketCacheEntry}
use Rattle.packet_laws.specs.OnWay.{IsPacketOnWay}
use Rattle.packet_laws.specs.Facts.{packet_facts_of}
use Rattle.packet_laws.specs.KeptFacts.{PacketRouteAvoidsFound, BringsRightPacketRule}
use Rattle.packet_laws.specs.Rest.{IsPacketServed}

-- the packet is at its place on a route that leads over links of the network to a target of its
-- leg, and uses none that it found down. Its switch serves. Each switch that serves has the version
-- by which it seeks an authority, or stamps with a greater one
pub record IsPacketTravelling (setting : Setting) (journal : List Item) (packet : ℕ) : Type 0 where
  pub on_way : IsPacketOnWay setting journal (packet_facts_of journal packet)
  pub served : IsPacketServed journal packet
  pub avoids : PacketRouteAvoidsFound (journal_found_down journal packet) (journal_route_in journal packet)
  pub held : (version partition s : ℕ) → journal_leg_of journal packet ≡ Some (Seek version partition)
      → s < length setting.net.switches → IsTrue (serves journal s)
      → IsTrue (holds_version journal s version) ⊎ (version < journal_stamp_of journal s)

abbrev pub PacketsTravel : Setting → List Item → Type 0
PacketsTravel setting journal = (packet : ℕ) → IsTrue (travels_in_journal journal packet)
    → IsPacketTravelling setting journal packet

-- each cache rule that was sent, and each that a switch caches, is of a version that is at most
-- the current one, and decides each header of its word as this version's policy does
pub record PacketRulesAreRight (setting : Setting) (journal : List Item) : Type 0 where
  pub sent : (n : ℕ) (message : Message) → journal_message_of journal n ≡ Some message
      → BringsRightPacketRule setting journal message.body
  pub cached : (s : ℕ) → All (IsRightPacketCacheEntry setting journal) (journal_cache_of setting journal s).entries
