-- A network between steps: each travelling packet is on its way, at a switch that serves.
use Rattle.std.specs.Prelude.{◌≡◌, IsTrue, List, Some, ℕ}
use Rattle.update_machine.specs.Exports.{Item, serves, journal_standing_of, travels_in_journal}
use Rattle.packet_laws.specs.Stages.{OnWay, packet_stage_of}

-- the packet is at a switch that serves
pub record IsPacketServed (journal : List Item) (packet : ℕ) : Type 0 where
  pub switch : ℕ
  pub stands : journal_standing_of journal packet ≡ Some switch
  pub serving : IsTrue (serves journal switch)

-- each travelling packet is at a switch that serves
abbrev pub ArePacketsServed : List Item → Type 0
ArePacketsServed journal = (packet : ℕ) → IsTrue (travels_in_journal journal packet) → IsPacketServed journal packet

-- a packet that travels is on its way
abbrev pub IsPacketMoving : List Item → ℕ → Type 0
IsPacketMoving journal packet = IsTrue (travels_in_journal journal packet) → packet_stage_of journal packet ≡ Some OnWay

pub record ArePacketsResting (journal : List Item) : Type 0 where
  pub served : ArePacketsServed journal
  pub moving : (packet : ℕ) → IsPacketMoving journal packet
