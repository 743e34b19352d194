-- First tier. The steps of a journal are the rows of its schedule that were played, one by one,
-- except for the hops and deliveries that rows of a drain or a flush cause too. Each packet that
-- entered or was closed is that of a packet row: a journal without packets is that of a play
-- without packet rows. The notion is our own.
use Rattle.std.specs.Prelude.{[], ◌++◌, ◌+◌, ◌-◌, ◌∷◌, ◌≡◌, Bool, IsFalse, IsTrue, List, None, Option, Some, take, ℕ, ⊤}
use Rattle.update_machine.specs.Exports.{Deliver, Event, Header, Hop, Item, One, Packet, Step, journal_all_given, journal_next_packet, serves}
use Rattle.journal.specs.declared.item.Item.TheVariants as item

-- a row of a schedule that names one step
pub record PacketLawStepRow : Type 0 where
  pub row : ℕ
  pub step : Step

-- the step's row; none for a hop or a delivery, which may be a step of a drain or a flush too
abbrev pub packet_law_step_row : ℕ → Step → List PacketLawStepRow
packet_law_step_row row (Hop packet) = []
packet_law_step_row row (Deliver message) = []
packet_law_step_row row step = record { row = row; step = step } ∷ []

abbrev pub packet_law_event_row : ℕ → Event → List PacketLawStepRow
packet_law_event_row row (One step) = packet_law_step_row row step
packet_law_event_row row _ = []

-- the step rows of these events; the first event has this row number
abbrev pub packet_law_step_rows : ℕ → List Event → List PacketLawStepRow
packet_law_step_rows row [] = []
packet_law_step_rows row (event ∷ events) = packet_law_event_row row event ++ packet_law_step_rows (row + 1) events

-- the step rows that were played: all, or those before the row at which the play stopped full
abbrev pub packet_law_rows_played : Option ℕ → List Event → List PacketLawStepRow
packet_law_rows_played None events = packet_law_step_rows 1 events
packet_law_rows_played (Some row) events = packet_law_step_rows 1 (take (row - 1) events)

-- ---- in a journal

abbrev pub gives_packet_law_step_row : Item → List PacketLawStepRow
gives_packet_law_step_row (item.Row row step) = packet_law_step_row row step
gives_packet_law_step_row _ = []

-- the step rows that a journal has, in order
abbrev pub packet_law_step_rows_in : List Item → List PacketLawStepRow
packet_law_step_rows_in journal = journal_all_given gives_packet_law_step_row journal

-- the item says that packet i entered with this header at the switch, if the switch serves; or, if
-- it doesn't, that it was closed to the packet
abbrev pub IsPacketEntryOf : Bool → ℕ → ℕ → Header → Item → Type 0
IsPacketEntryOf serving i s header (item.Entered packet switch came) =
    (packet ≡ i) × (switch ≡ s) × (came ≡ header) × IsTrue serving
IsPacketEntryOf serving i s header (item.Closed packet switch) =
    (packet ≡ i) × (switch ≡ s) × IsFalse serving
IsPacketEntryOf serving i s header _ = ⊥

-- after this journal each packet row among the items has its entry right after it, under the next
-- number, and nothing else enters or is closed
abbrev pub EachPacketRowEnters : List Item → List Item → Type 0
EachPacketRowEnters before [] = ⊤
EachPacketRowEnters before (item.Row row (Packet s header) ∷ []) = ⊥
EachPacketRowEnters before (item.Row row (Packet s header) ∷ entry ∷ items) =
    IsPacketEntryOf (serves (before ++ item.Row row (Packet s header) ∷ []) s) (journal_next_packet before) s
    header entry × EachPacketRowEnters (before ++ item.Row row (Packet s header) ∷ entry ∷ []) items
EachPacketRowEnters before (item.Entered packet switch header ∷ items) = ⊥
EachPacketRowEnters before (item.Closed packet switch ∷ items) = ⊥
EachPacketRowEnters before (first ∷ items) = EachPacketRowEnters (before ++ first ∷ []) items

-- the journal has these rows, each packet row with its entry, and no other entry
pub record ArePacketRowsEntered (rows : List PacketLawStepRow) (journal : List Item) : Type 0 where
  pub in_order : packet_law_step_rows_in journal ≡ rows
  pub each : EachPacketRowEnters [] journal
