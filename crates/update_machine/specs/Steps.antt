-- The steps of a journal: the stretches from one row to the next, the last of which may continue.
use Rattle.std.specs.Prelude.{[], ◌++◌, ◌∷◌, List}
use Rattle.journal.specs.declared.item.Item.{Item}
use Rattle.journal.specs.declared.item.Item.TheVariants as item
use Rattle.update_machine.specs.Folds.{journal_folded_value}

-- the items of a step, the row's first, and the journal before them
pub record MachineStepItems : Type 0 where
  pub before : List Item
  pub items : List Item

-- the steps with one more item of the newest one
abbrev pub machine_steps_with_item : List MachineStepItems → Item → List MachineStepItems
machine_steps_with_item [] item = []
machine_steps_with_item (newest ∷ steps) item = record newest { items = newest.items ++ item ∷ [] } ∷ steps

abbrev pub machine_item_changes_steps : List Item → List MachineStepItems → Item → List MachineStepItems
machine_item_changes_steps before steps (item.Row row step) =
    record { before = before; items = item.Row row step ∷ [] } ∷ steps
machine_item_changes_steps before steps item = machine_steps_with_item steps item

-- the steps of a journal, the newest first
unfoldable pub journal_steps_in : List Item → List MachineStepItems
journal_steps_in journal = journal_folded_value machine_item_changes_steps [] journal
