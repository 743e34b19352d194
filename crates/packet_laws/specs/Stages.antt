-- What a switch is doing with a packet, in the middle of a step: our own notion.
use Rattle.std.specs.Prelude.{if◌then◌else◌, ◌==◌, List, None, Option, Some, ℕ}
use Rattle.update_machine.specs.Exports.{Item, journal_last_given}
use Rattle.journal.specs.declared.item.Item.TheVariants as item

-- a packet entered, was decided, or found a link down, and what its switch does with it follows in
-- the next items; or it is on its way on a route
pub data PacketStage : Type 0 where
  CameIn : PacketStage
  Judged : PacketStage
  Blocked : PacketStage
  OnWay : PacketStage

abbrev pub gives_packet_stage : ℕ → Item → Option PacketStage
gives_packet_stage i (item.Entered packet switch header) = if packet == i then Some CameIn else None
gives_packet_stage i (item.Decided packet version rule action how) =
    if packet == i then Some Judged else None
gives_packet_stage i (item.FoundDown packet one two) = if packet == i then Some Blocked else None
gives_packet_stage i (item.Seeking packet version partition route) =
    if packet == i then Some OnWay else None
gives_packet_stage i (item.Exiting packet route) = if packet == i then Some OnWay else None
gives_packet_stage i (item.Rerouted packet route) = if packet == i then Some OnWay else None
gives_packet_stage i (item.Hopped packet switch) = if packet == i then Some OnWay else None
gives_packet_stage i _ = None

-- the stage of the packet's last such item
unfoldable pub packet_stage_of : List Item → ℕ → Option PacketStage
packet_stage_of journal i = journal_last_given (gives_packet_stage i) journal
