-- The laws of plays, and of the network after any steps, that the top call uses.
use Rattle.std.specs.Prelude.{List, Option, ℕ}
use Rattle.packet_laws.specs.Exports.{ArePacketRowsEntered, PacketLawHoldsBetween, packet_law_rows_played}
use Rattle.flow_export.specs.Counted.{FlowMeterLaws}
use Rattle.update_machine.specs.Exports.{Event, IsMachinePlay, IsQuietMachineJournal, IsMachineSetting, Item, Setting}
use Rattle.forwarding_laws.specs.Exports.{HasNetworkComeToRest, PlaysKeepForwarding}
use Rattle.trace_texts.specs.Texts.{TraceTextsAreGood}

-- what follows from a play, and what is true after steps of the network
pub record ProgramAnswerLaws : Type 0 where
  pub entered : (setting : Setting) (events : List Event) (journal : List Item) (full : Option ℕ)
      → IsMachinePlay setting events journal full → ArePacketRowsEntered (packet_law_rows_played full events) journal
  pub quiet : PacketLawHoldsBetween (λ setting journal.
      IsMachineSetting setting → IsQuietMachineJournal setting journal → HasNetworkComeToRest setting journal)
  pub works : PlaysKeepForwarding
  pub texts : TraceTextsAreGood
  pub flows : FlowMeterLaws
