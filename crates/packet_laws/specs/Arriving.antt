-- Packets at the end of their route, just before the switch there receives them.
use Rattle.std.specs.Prelude.{◌≡◌, IsTrue, List, Some, ℕ}
use Rattle.update_machine.specs.Exports.{Header, Item, Leg, Setting, journal_packet_header, journal_leg_of, journal_standing_of, travels_in_journal}
use Rattle.control_laws.specs.Exports.{ControlLegEndsAt}
use Rattle.packet_laws.specs.PacketCauses.{PacketArrivesHere}

-- the packet travels with this header on this leg, and is at this switch, where its route ends,
-- even if it took that route just now, in the middle of a hop
pub record IsPacketAtRouteEnd (journal : List Item) (packet s : ℕ) (header : Header) (leg : Leg) : Type 0
  where
    pub travelling : IsTrue (travels_in_journal journal packet)
    pub arrives : PacketArrivesHere journal packet
    pub stands : journal_standing_of journal packet ≡ Some s
    pub with_header : journal_packet_header journal packet ≡ Some header
    pub takes : journal_leg_of journal packet ≡ Some leg

-- each packet at the end of its route is where its leg leads
abbrev pub PacketsArrive : Setting → List Item → Type 0
PacketsArrive setting journal = (packet s : ℕ) (header : Header) (leg : Leg)
    → IsPacketAtRouteEnd journal packet s header leg → ControlLegEndsAt setting journal s header leg
