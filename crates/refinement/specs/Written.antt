-- What a controller does at a call, as items of the journal: marks that rise, and messages, each
-- under the next number. The notion is our own.
use Rattle.std.specs.Prelude.{[], ◌++◌, ◌∷◌, ◌≡◌, List, map, ℕ}
use Rattle.controller.specs.Exports.{ControllerValue, controller_resend_acts}
use Rattle.controller.specs.declared.sends.Act.{Act}
use Rattle.controller.specs.declared.sends.Act.TheVariants.{Current, Retired, Post}
use Rattle.update_machine.specs.Exports.{Item, Setting, journal_next_message, journal_resent_by_switch}
use Rattle.journal.specs.declared.item.Item.TheVariants as item
use Rattle.refinement.specs.Controller.{IsRefinedController}

abbrev pub refined_act_item : List Item → Act → Item
refined_act_item journal (Current version) = item.Current version
refined_act_item journal (Retired version) = item.Retired version
refined_act_item journal (Post message) = item.Sent (journal_next_message journal) message

-- what the acts write after the journal, one after another
abbrev pub refined_acts_written : List Item → List Act → List Item
refined_acts_written journal [] = []
refined_acts_written journal (act ∷ acts) =
    refined_act_item journal act ∷ refined_acts_written (journal ++ refined_act_item journal act ∷ []) acts

-- at a resend the switch sends its messages, and then the controller sends its own
abbrev pub refined_resend_acts : Setting → List Item → ℕ → ControllerValue → List Act
refined_resend_acts setting journal s controller =
    map Post (journal_resent_by_switch setting journal s) ++ controller_resend_acts controller s

-- the items after the journal are these first ones and then what the acts write, and the
-- controller is then as the longer journal says
pub record AreRefinedActsWritten (setting : Setting) (journal first : List Item) (acts : List Act)
    (new : ControllerValue) (items : List Item) : Type 0 where
  pub same : items ≡ first ++ refined_acts_written (journal ++ first) acts
  pub after : IsRefinedController setting (journal ++ items) new
