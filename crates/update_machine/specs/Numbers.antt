-- Packets, messages and versions are numbered from 1 without a gap, in the order in which they
-- came, were sent or were submitted.
use Rattle.std.specs.Prelude.{[], ◌+◌, ◌↔◌, ◌∷◌, ◌≡◌, ◌≤◌, IsTrue, List, ℕ, ⊤}
use Rattle.base.specs.Exports.{range_with_len}
use Rattle.journal.specs.declared.item.Item.{Item}
use Rattle.journal.specs.declared.item.Item.TheVariants as item
use Rattle.update_machine.specs.Folds.{journal_all_given, machine_count_of}
use Rattle.update_machine.specs.Messages.{is_machine_sending_item, journal_next_message}
use Rattle.update_machine.specs.Packets.{journal_next_packet}
use Rattle.update_machine.specs.Versions.{is_journal_version, journal_version_count}
use Rattle.update_machine.specs.Travels.{journal_packets}

abbrev pub machine_packet_number : Item → List ℕ
machine_packet_number (item.Entered packet switch header) = packet ∷ []
machine_packet_number (item.Closed packet switch) = packet ∷ []
machine_packet_number _ = []

abbrev pub machine_item_message_number : Item → List ℕ
machine_item_message_number (item.Sent number message) = number ∷ []
machine_item_message_number _ = []

-- the versions that exist are those from 1 to their count
abbrev pub JournalVersionsAreNumbered : List Item → Type 0
JournalVersionsAreNumbered journal = (v : ℕ) → IsTrue (is_journal_version journal v)
    ↔ ((1 ≤ v) × (v ≤ journal_version_count journal))

-- the numbers are 1, 2 and so on, as many as there are packets, messages or versions
pub record AreJournalNumbersWithoutGap (journal : List Item) : Type 0 where
  pub packets : journal_all_given machine_packet_number journal ≡ journal_packets journal
  pub messages : journal_all_given machine_item_message_number journal ≡ range_with_len 1 (machine_count_of is_machine_sending_item journal)
  pub versions : JournalVersionsAreNumbered journal

-- the cause of a number: it is the next one
abbrev pub MachineTakesNextNumber : List Item → Item → Type 0
MachineTakesNextNumber before (item.Sent number message) = number ≡ journal_next_message before
MachineTakesNextNumber before (item.Entered packet switch header) = packet ≡ journal_next_packet before
MachineTakesNextNumber before (item.Closed packet switch) = packet ≡ journal_next_packet before
MachineTakesNextNumber before (item.Submitted file version) = version ≡ journal_version_count before + 1
MachineTakesNextNumber before _ = ⊤
