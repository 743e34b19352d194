-- Which facts of the headline are true of a journal, and how it prints.
use Rattle.std.specs.Prelude.{[], ◌∷◌, ◌≡◌, Bool, List, None, false, true, ℕ}
use Rattle.update_machine.specs.Exports.{Event, HasMachineCause, JournalItemsHaveCauses, IsMachineRun, Item, One, journal_all_given}
use Rattle.journal.specs.declared.item.Item.TheVariants as item
use Rattle.journal_text.specs.Lines.{journal_text}
use Rattle.packet_laws.specs.Exports.{ArePacketRowsEntered, packet_law_rows_played}
use Rattle.wrong_journals.specs.Office.{wrong_journal_office, wrong_journal_text, wrong_journals_net}

-- the journal prints as these lines
abbrev pub TriedJournalPrintsAs : List Item → List (List ℕ) → Type 0
TriedJournalPrintsAs journal lines = journal_text wrong_journals_net journal ≡ wrong_journal_text lines

-- the schedule of the rows that a journal has: so its entries can differ from the schedule's only
-- if a packet enters by no row
abbrev pub wrong_journal_event_in : Item → List Event
wrong_journal_event_in (item.Row row step) = One step ∷ []
wrong_journal_event_in _ = []

abbrev pub wrong_journals_events : List Item → List Event
wrong_journals_events journal = journal_all_given wrong_journal_event_in journal

-- the fact is true, or it is false
abbrev pub TriedFactIs : Bool → Type 0 → Type 0
TriedFactIs true fact = fact
TriedFactIs false fact = ¬ fact

-- whether the journal is a run of the machine, its ends have their causes, and its rows and
-- entries are those of the schedule, which was played to its end
pub record IsSmallTriedJournal (is_run has_causes is_entered : Bool) (journal : List Item) : Type 0 where
  pub run : TriedFactIs is_run (IsMachineRun wrong_journal_office journal)
  pub causes : TriedFactIs has_causes (JournalItemsHaveCauses (HasMachineCause wrong_journal_office) [] journal)
  pub entered : TriedFactIs is_entered (ArePacketRowsEntered (packet_law_rows_played None (wrong_journals_events journal)) journal)

-- all three are true
abbrev pub IsRightTriedJournal : List Item → Type 0
IsRightTriedJournal journal = IsSmallTriedJournal true true true journal

-- it is no run, has an end without its cause, or an entry without its row; the rest is true
abbrev pub WrongJournalIsNoRun : List Item → Type 0
WrongJournalIsNoRun journal = IsSmallTriedJournal false true true journal

abbrev pub WrongJournalLacksCause : List Item → Type 0
WrongJournalLacksCause journal = IsSmallTriedJournal true false true journal

abbrev pub WrongJournalLacksRow : List Item → Type 0
WrongJournalLacksRow journal = IsSmallTriedJournal true true false journal

-- two are false, and its rows and entries are the schedule's
abbrev pub WrongJournalLacksRunAndCause : List Item → Type 0
WrongJournalLacksRunAndCause journal = IsSmallTriedJournal false false true journal
