-- Where packets get stuck in a network that has converged.
use Rattle.std.specs.Prelude.{◌++◌, ◌∷◌, ◌≡◌, All, List, ℕ}
use Rattle.failover.specs.Exports.{no_failover_links}
use Rattle.update_machine.specs.Exports.{Cause, Item, Leg, Setting, Step, journal_found_down, piece, journal_leg_targets}
use Rattle.journal.specs.declared.item.Item.TheVariants as item
use Rattle.steps.specs.Exports.{StepSwitchExists}
use Rattle.convergence_laws.specs.Converged.{ConvergenceReaches}

-- a packet that had found no link down gets stuck in the next step only if no target of its leg is
-- reachable over usable links
abbrev pub ConvergedGetStuckApart : Setting → List Item → Type 0
ConvergedGetStuckApart setting journal = (row : ℕ) (step : Step) (front rest : List Item) (i s : ℕ)
    (cause : Cause) (leg : Leg) (down : List ℕ)
    → piece setting journal row step ≡ front ++ item.Stuck i s cause leg down ∷ rest
    → journal_found_down journal i ≡ no_failover_links → StepSwitchExists setting.net s
    → All (λ target. ConvergenceReaches setting journal s target → ⊥) (journal_leg_targets setting journal leg)
