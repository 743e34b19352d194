-- A play stops before a step that would begin with a full journal. The notion is our own.
use Rattle.std.specs.Prelude.{[], ◌++◌, ◌<◌, ◌∷◌, ◌≡◌, ◌≤◌, List, None, Option, Some, ℕ, ⊤}
use Rattle.journal.specs.declared.item.Item.{Item}
use Rattle.steps.specs.declared.step.Event.{Event}
use Rattle.update_machine.specs.Answers.{Answers, AreJournalFirstSteps, MachineStepOfRow, journal_after_steps}
use Rattle.update_machine.specs.Messages.{journal_next_message}
use Rattle.update_machine.specs.Pieces.{piece}
use Rattle.update_machine.specs.Setting.{Setting}

-- this many messages fill a journal
abbrev pub machine_journal_full_at : ℕ
machine_journal_full_at = 990_000

-- so many messages were sent that no step begins after this journal: messages are numbered from 1,
-- so the next one has a number above their count
abbrev pub IsMachineJournalFull : List Item → Type 0
IsMachineJournalFull journal = machine_journal_full_at < journal_next_message journal

-- a step may begin after this journal
abbrev pub MachineJournalHasRoom : List Item → Type 0
MachineJournalHasRoom journal = journal_next_message journal ≤ machine_journal_full_at

-- each of these steps begins with room, the first one after this journal
abbrev pub MachineJournalsHaveRoom : Setting → List Item → List MachineStepOfRow → Type 0
MachineJournalsHaveRoom setting before [] = ⊤
MachineJournalsHaveRoom setting before (next ∷ steps) =
    MachineJournalHasRoom before × MachineJournalsHaveRoom setting (before ++ piece setting before next.row next.step) steps

-- the journal answers the events, and each of their steps began with room
pub record JournalAnswersWithRoom (setting : Setting) (events : List Event) (journal : List Item)
    : Type 0 where
  pub answers : Answers setting events journal
  pub room : MachineJournalsHaveRoom setting [] answers.steps

-- the journal answers the events as far as there was room: it is the pieces of their first steps,
-- it is full, and the next step, which isn't taken, is of this row
pub record JournalStopsFull (setting : Setting) (events : List Event) (journal : List Item) (row : ℕ)
    : Type 0 where
  pub steps : List MachineStepOfRow
  pub next : MachineStepOfRow
  pub allowed : AreJournalFirstSteps setting 1 events [] (steps ++ next ∷ [])
  pub written : journal ≡ journal_after_steps setting [] steps
  pub room : MachineJournalsHaveRoom setting [] steps
  pub full : IsMachineJournalFull journal
  pub of_row : next.row ≡ row

-- the result of a play of the events: its journal, and the row at which it stopped full, if it did
abbrev pub IsMachinePlay : Setting → List Event → List Item → Option ℕ → Type 0
IsMachinePlay setting events journal None = JournalAnswersWithRoom setting events journal
IsMachinePlay setting events journal (Some row) = JournalStopsFull setting events journal row

-- the events have a play
abbrev pub HasMachinePlay : Setting → List Event → Type 0
HasMachinePlay setting events =
    (journal : List Item) × (stop : Option ℕ) × IsMachinePlay setting events journal stop
