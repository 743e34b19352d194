-- The answer to a schedule: the pieces of the steps that its events take, one after another. The
-- notion is our own.
use Rattle.std.specs.Prelude.{[], ◌++◌, ◌+◌, ◌∷◌, ◌≡◌, ◌⊎◌, All, List, None, Option, Some, length, option_map, take, ℕ, ⊤}
use Rattle.journal.specs.declared.item.Item.{Item}
use Rattle.steps.specs.Exports.{IsStep}
use Rattle.steps.specs.declared.step.Event.{Event}
use Rattle.steps.specs.declared.step.Event.TheVariants.{One, Flush, Drain}
use Rattle.steps.specs.declared.step.Step.{Step}
use Rattle.steps.specs.declared.step.Step.TheVariants.{Deliver, Hop}
use Rattle.update_machine.specs.Messages.{next_waiting}
use Rattle.update_machine.specs.Travels.{next_travelling}
use Rattle.update_machine.specs.Pieces.{piece}
use Rattle.update_machine.specs.Setting.{Setting}

-- a step, and the row of the schedule that it belongs to
pub record MachineStepOfRow : Type 0 where
  pub row : ℕ
  pub step : Step

-- the journal after the steps wrote their pieces, one after another
abbrev pub journal_after_steps : Setting → List Item → List MachineStepOfRow → List Item
journal_after_steps setting before [] = before
journal_after_steps setting before (next ∷ steps) =
    journal_after_steps setting (before ++ piece setting before next.row next.step) steps

-- the journal is the pieces of any steps of the network, one after another
pub record IsJournalReached (setting : Setting) (journal : List Item) : Type 0 where
  pub steps : List MachineStepOfRow
  pub own : All (λ next. IsStep setting.net (length setting.files) next.step) steps
  pub written : journal ≡ journal_after_steps setting [] steps

-- ---- flush and drain

-- the delivery of the least waiting message; the hop of the least travelling packet
abbrev pub journal_next_delivery : List Item → Option Step
journal_next_delivery journal = option_map Deliver (next_waiting journal)

abbrev pub journal_next_hop : List Item → Option Step
journal_next_hop journal = option_map Hop (next_travelling journal)

-- after this journal, these are steps of the row, each the next one; and then there is none
abbrev pub AreAllMachineEventSteps : Setting → (List Item → Option Step) → ℕ → List Item → List MachineStepOfRow → Type 0
AreAllMachineEventSteps setting next row before [] = next before ≡ None
AreAllMachineEventSteps setting next row before (first ∷ steps) =
    (first.row ≡ row) × (next before ≡ Some first.step)
    × AreAllMachineEventSteps setting next row (before ++ piece setting before first.row first.step) steps

-- after this journal, these are first steps of the row, each the next one; others may follow
abbrev pub AreFirstMachineEventSteps : Setting → (List Item → Option Step) → ℕ → List Item → List MachineStepOfRow → Type 0
AreFirstMachineEventSteps setting next row before [] = ⊤
AreFirstMachineEventSteps setting next row before (first ∷ steps) =
    (first.row ≡ row) × (next before ≡ Some first.step)
    × AreFirstMachineEventSteps setting next row (before ++ piece setting before first.row first.step) steps

-- ---- the steps of events

-- after this journal, these are all steps of the event of the row
abbrev pub AreMachineStepsOf : Setting → ℕ → Event → List Item → List MachineStepOfRow → Type 0
AreMachineStepsOf setting row (One step) before steps = steps ≡ record { row = row; step = step } ∷ []
AreMachineStepsOf setting row Flush before steps = AreAllMachineEventSteps setting journal_next_delivery row before steps
AreMachineStepsOf setting row Drain before steps = AreAllMachineEventSteps setting journal_next_hop row before steps

-- after this journal, these are first steps of the event of the row
abbrev pub AreFirstMachineStepsOf : Setting → ℕ → Event → List Item → List MachineStepOfRow → Type 0
AreFirstMachineStepsOf setting row (One step) before steps =
    (steps ≡ []) ⊎ (steps ≡ record { row = row; step = step } ∷ [])
AreFirstMachineStepsOf setting row Flush before steps = AreFirstMachineEventSteps setting journal_next_delivery row before steps
AreFirstMachineStepsOf setting row Drain before steps = AreFirstMachineEventSteps setting journal_next_hop row before steps

-- the steps are these of one event and then those of others
pub record MachineEventStepsSplit (mine rest steps : List MachineStepOfRow) : Type 0 where
  pub split : steps ≡ mine ++ rest

-- after this journal, these are all steps of the events, the first of which has this row
abbrev pub AreMachineSteps : Setting → ℕ → List Event → List Item → List MachineStepOfRow → Type 0
AreMachineSteps setting row [] before steps = steps ≡ []
AreMachineSteps setting row (event ∷ events) before steps =
    (mine : List MachineStepOfRow) × (rest : List MachineStepOfRow) × MachineEventStepsSplit mine rest steps
    × AreMachineStepsOf setting row event before mine
    × AreMachineSteps setting (row + 1) events (journal_after_steps setting before mine) rest

-- after this journal, these are first steps of the events: first ones of the first event, or all of
-- its steps and then first ones of the others
abbrev pub AreJournalFirstSteps : Setting → ℕ → List Event → List Item → List MachineStepOfRow → Type 0
AreJournalFirstSteps setting row [] before steps = steps ≡ []
AreJournalFirstSteps setting row (event ∷ events) before steps =
    AreFirstMachineStepsOf setting row event before steps
    ⊎ ((mine : List MachineStepOfRow) × (rest : List MachineStepOfRow) × MachineEventStepsSplit mine rest steps
    × AreMachineStepsOf setting row event before mine
    × AreJournalFirstSteps setting (row + 1) events (journal_after_steps setting before mine) rest)

-- ---- answers

-- the journal answers the events: it is the pieces of their steps, one after another, and event k
-- is row k
pub record Answers (setting : Setting) (events : List Event) (journal : List Item) : Type 0 where
  pub steps : List MachineStepOfRow
  pub allowed : AreMachineSteps setting 1 events [] steps
  pub written : journal ≡ journal_after_steps setting [] steps

-- the journal answers the events up to its end: it is the pieces of their first steps
pub record JournalAnswersSoFar (setting : Setting) (events : List Event) (journal : List Item)
    : Type 0 where
  pub steps : List MachineStepOfRow
  pub allowed : AreJournalFirstSteps setting 1 events [] steps
  pub written : journal ≡ journal_after_steps setting [] steps

-- the journal begins an answer to the events: items of the last of its steps may be missing
pub record JournalBeginsAnswer (setting : Setting) (events : List Event) (journal : List Item)
    : Type 0 where
  pub whole : List Item
  pub answers : JournalAnswersSoFar setting events whole
  pub length : ℕ
  pub written : journal ≡ take length whole

-- ---- whether there is an answer

-- some journal answers the events
abbrev pub AreAnsweredByJournal : Setting → List Event → Type 0
AreAnsweredByJournal setting events = (journal : List Item) × Answers setting events journal

-- after this journal the event has all its steps: if it is a flush or a drain, it ends
abbrev pub HasMachineSteps : Setting → ℕ → Event → List Item → Type 0
HasMachineSteps setting row event before =
    (steps : List MachineStepOfRow) × AreMachineStepsOf setting row event before steps

-- each of the events has all its steps, after an answer to those before it
abbrev pub HaveMachineSteps : Setting → List Event → Type 0
HaveMachineSteps setting events =
    (first : List Event) (event : Event) (others : List Event) (journal : List Item)
    → events ≡ first ++ event ∷ others → Answers setting first journal
    → HasMachineSteps setting (length first + 1) event journal
