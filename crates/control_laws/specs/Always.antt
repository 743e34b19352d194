-- What it means that a fact is true of each journal: of any steps in any order, or of the steps
-- that a network may take.
use Rattle.std.specs.Prelude.{[], ◌++◌, All, List, length, take, ℕ}
use Rattle.update_machine.specs.Exports.{Answers, JournalAnswersSoFar, JournalBeginsAnswer, Event, JournalItemsHaveCauses, IsJournalReached, Item, Setting, MachineStepOfRow, journal_after_steps}
use Rattle.steps.specs.Exports.{IsEventOfSteps}
use Rattle.control_laws.specs.ItemCauses.{HasControlItemCause}

-- it is true after any steps of any kind; so of each answer to a schedule, and of each beginning
-- of one that ends where a step ends
pub record ControlLawHoldsAtEnds (Holds : Setting → List Item → Type 0) : Type 0 where
  pub stepped : (setting : Setting) (steps : List MachineStepOfRow) →
      Holds setting (journal_after_steps setting [] steps)
  pub answered : (setting : Setting) (events : List Event) (journal : List Item) →
      Answers setting events journal → Holds setting journal
  pub so_far : (setting : Setting) (events : List Event) (journal : List Item) →
      JournalAnswersSoFar setting events journal → Holds setting journal

-- it is true after any first items that steps of any kind wrote, and after all of them; so of each
-- beginning of an answer to a schedule, which may end within a step
pub record ControlLawHoldsBehindItems (Holds : Setting → List Item → Type 0) : Type 0 where
  pub items : (setting : Setting) (steps : List MachineStepOfRow) (n : ℕ) →
      Holds setting (take n (journal_after_steps setting [] steps))
  pub ends : ControlLawHoldsAtEnds Holds
  pub begun : (setting : Setting) (events : List Event) (journal : List Item) →
      JournalBeginsAnswer setting events journal → Holds setting journal

-- it is true of each journal whose items have their causes; so after any first items of any steps
pub record ControlLawHoldsAlways (Holds : Setting → List Item → Type 0) : Type 0 where
  pub caused : (setting : Setting) (journal : List Item) →
      JournalItemsHaveCauses (HasControlItemCause setting) [] journal → Holds setting journal
  pub behind : ControlLawHoldsBehindItems Holds

-- events of a schedule: they name only switches and links of the network, and files that exist
abbrev pub AreControlNetworkEvents : Setting → List Event → Type 0
AreControlNetworkEvents setting events = All (IsEventOfSteps setting.net (length setting.files)) events

-- it is true after any steps that the network may take, and after any first items that they wrote,
-- which may end within a step; of each answer to its events, and of each beginning of one
pub record ControlLawHoldsReached (Holds : Setting → List Item → Type 0) : Type 0 where
  pub reached : (setting : Setting) (journal : List Item) → IsJournalReached setting journal
      → Holds setting journal
  pub within : (setting : Setting) (journal rest : List Item)
      → IsJournalReached setting (journal ++ rest) → Holds setting journal
  pub answered : (setting : Setting) (events : List Event) (journal : List Item)
      → AreControlNetworkEvents setting events → Answers setting events journal → Holds setting journal
  pub begun : (setting : Setting) (events : List Event) (journal : List Item)
      → AreControlNetworkEvents setting events → JournalBeginsAnswer setting events journal → Holds setting journal
