-- A loop of steps in a play runs to its end, or stops before a step that would begin with a full
-- journal. The notion is our own.
use Rattle.std.specs.Prelude.{[], ◌++◌, ◌∷◌, ◌⊎◌, List, Option, ℕ}
use Rattle.update_machine.specs.Exports.{AreAllMachineEventSteps, AreFirstMachineEventSteps, MachineJournalsHaveRoom, IsMachineJournalFull, Item, Setting, Step, MachineStepOfRow, journal_after_steps}

-- after these steps the journal is full, and the loop has a next one
pub record PacketLawStopsAt (setting : Setting) (next : List Item → Option Step) (row : ℕ)
    (before : List Item) (steps : List MachineStepOfRow) : Type 0 where
  pub more : MachineStepOfRow
  pub allowed : AreFirstMachineEventSteps setting next row before (steps ++ more ∷ [])
  pub full : IsMachineJournalFull (journal_after_steps setting before steps)

-- steps that each began with room; they are the whole loop, or stop at a full journal
pub record PacketLawGoesOrStops (setting : Setting) (next : List Item → Option Step) (row : ℕ)
    (before : List Item) : Type 0 where
  pub steps : List MachineStepOfRow
  pub room : MachineJournalsHaveRoom setting before steps
  pub how : AreAllMachineEventSteps setting next row before steps ⊎ PacketLawStopsAt setting next row before steps
