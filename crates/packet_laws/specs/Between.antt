-- What it means that a fact is true between the steps that a network may take.
use Rattle.std.specs.Prelude.{[], List, None, Option, Some, take, ℕ}
use Rattle.update_machine.specs.Exports.{Answers, JournalAnswersSoFar, Event, IsMachinePlay, IsJournalReached, Item, Setting, MachineStepOfRow, journal_after_steps}
use Rattle.control_laws.specs.Exports.{AreControlNetworkEvents}

-- the steps of a play, in order
abbrev pub packet_steps_played : (setting : Setting) (events : List Event) (journal : List Item)
    (full : Option ℕ) → IsMachinePlay setting events journal full → List MachineStepOfRow
packet_steps_played setting events journal None play = play.answers.steps
packet_steps_played setting events journal (Some row) play = play.steps

-- it is true after any steps of the network; of each answer to its events, and of each beginning
-- of one that ends where a step ends; and after each step of a play
pub record PacketLawHoldsBetween (Holds : Setting → List Item → Type 0) : Type 0 where
  pub reached : (setting : Setting) (journal : List Item) → IsJournalReached setting journal
      → Holds setting journal
  pub answered : (setting : Setting) (events : List Event) (journal : List Item)
      → AreControlNetworkEvents setting events → Answers setting events journal → Holds setting journal
  pub so_far : (setting : Setting) (events : List Event) (journal : List Item)
      → AreControlNetworkEvents setting events → JournalAnswersSoFar setting events journal → Holds setting journal
  pub played : (setting : Setting) (events : List Event) (journal : List Item)
      (full : Option ℕ) → AreControlNetworkEvents setting events → (play : IsMachinePlay setting events journal full)
      → (n : ℕ)
      → Holds setting
      (journal_after_steps setting [] (take n (packet_steps_played setting events journal full play)))
