-- A network in which nothing is left to do.
use Rattle.std.specs.Prelude.{[], ◌++◌, ◌||◌, ◌∷◌, ◌≡◌, All, IsFalse, IsTrue, List, None, not, ℕ}
use Rattle.update_machine.specs.Exports.{Answers, Event, Flush, Item, Setting, is_forgotten_in_journal, is_up, is_waited_for_in_journal, next_waiting, machine_switches_of}

-- no message waits, none was forgotten, and the controller waits for no switch that is down
pub record IsConvergenceNetworkFinished (setting : Setting) (journal : List Item) : Type 0 where
  pub waiting : next_waiting journal ≡ None
  pub forgotten : (number : ℕ) → IsFalse (is_forgotten_in_journal journal number)
  pub switches : All (λ s. IsTrue (is_up journal s || not (is_waited_for_in_journal journal s)))
      (machine_switches_of setting)

-- a schedule ends with a flush, no message was forgotten in its journal, and each switch that went
-- down came up again or was confirmed
pub record EndsInFinishedConvergenceNetwork (setting : Setting) (events : List Event) (journal : List Item)
    : Type 0 where
  pub answered : Answers setting (events ++ Flush ∷ []) journal
  pub forgotten : (number : ℕ) → IsFalse (is_forgotten_in_journal journal number)
  pub switches : All (λ s. IsTrue (is_up journal s || not (is_waited_for_in_journal journal s)))
      (machine_switches_of setting)
