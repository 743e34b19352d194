-- What a play adds to a journal, event by event.
use Rattle.std.specs.Prelude.{[], ◌++◌, ◌∷◌, ◌≡◌, Bool, Err, List, None, Option, Result, Some, false, true, ℕ, ⊤}
use Rattle.controller.specs.declared.plan_error.PlanError.{PlanError}
use Rattle.controller.specs.declared.plan_error.PlanError.TheVariants as why
use Rattle.update_machine.specs.Exports.{AreFirstMachineStepsOf, AreMachineStepsOf, Drain, Event, Flush, MachineJournalsHaveRoom, IsMachineJournalFull, Item, One, Setting, Step, MachineStepOfRow, journal_after_steps, journal_next_delivery, journal_next_hop}
use Rattle.partition.specs.Plan.{HostedPolicyPartition}
use Rattle.policy_rules.specs.Hosted as no_plan
use Rattle.world.specs.Exports.{world_packets_coming_in}
use Rattle.replay.specs.declared.error.ReplayError.{ReplayError}
use Rattle.policy_rules.specs.Exports.{NoPolicyPlan}
use Rattle.replay.specs.declared.error.ReplayError.TheVariants as replayed

-- the next step of the event after this journal; none if it has taken all its steps
abbrev pub replay_next_step : Event → Bool → List Item → Option Step
replay_next_step (One step) false journal = Some step
replay_next_step (One step) true journal = None
replay_next_step Flush is_begun journal = journal_next_delivery journal
replay_next_step Drain is_begun journal = journal_next_hop journal

-- how many packets enter or are closed in the steps of an event
abbrev pub replay_event_brings_in : Event → ℕ
replay_event_brings_in (One step) = world_packets_coming_in step
replay_event_brings_in _ = 0

-- after this journal, the event of the row took all its steps, each of which began with room
pub record ReplayEventHappens (setting : Setting) (row : ℕ) (event : Event) (before after : List Item)
    : Type 0 where
  pub steps : List MachineStepOfRow
  pub all : AreMachineStepsOf setting row event before steps
  pub room : MachineJournalsHaveRoom setting before steps
  pub written : after ≡ journal_after_steps setting before steps

-- after this journal, the event of the row took the steps that began with room; it has a next one,
-- which isn't taken because the journal is full
pub record ReplayEventStopsWithin (setting : Setting) (row : ℕ) (event : Event) (before after : List Item)
    : Type 0 where
  pub steps : List MachineStepOfRow
  pub next : MachineStepOfRow
  pub first : AreFirstMachineStepsOf setting row event before (steps ++ next ∷ [])
  pub of_row : next.row ≡ row
  pub room : MachineJournalsHaveRoom setting before steps
  pub written : after ≡ journal_after_steps setting before steps
  pub full : IsMachineJournalFull after

-- after this journal, the event of the row took its first steps, the last of them perhaps in part
pub record BeginsReplayEvent (setting : Setting) (row : ℕ) (event : Event) (before after : List Item)
    : Type 0 where
  pub steps : List MachineStepOfRow
  pub first : AreFirstMachineStepsOf setting row event before steps
  pub written : List Item
  pub grown : after ≡ before ++ written
  pub lacking : List Item
  pub whole : journal_after_steps setting before steps ≡ after ++ lacking

-- ---- refusals

-- the error for why there is no plan; out of memory is an error of its own
abbrev pub replay_error_of : PlanError → ReplayError
replay_error_of why.NoMemory = replayed.NoMemory
replay_error_of error = replayed.Plan error

-- the error says why the first policy has no plan, or that memory ran out
abbrev pub IsReplayPlanRefusal : Result (List HostedPolicyPartition) NoPolicyPlan → ReplayError → Type 0
IsReplayPlanRefusal plan (replayed.Plan (why.TooManyWords words)) = plan ≡ Err (no_plan.TooManyWords words)
IsReplayPlanRefusal plan (replayed.Plan why.TooManyLeaves) = plan ≡ Err no_plan.TooManyLeaves
IsReplayPlanRefusal plan (replayed.Plan (why.NoRoom partition)) = plan ≡ Err (no_plan.NoRoom partition)
IsReplayPlanRefusal plan (replayed.Plan why.NoMemory) = ⊥
IsReplayPlanRefusal plan replayed.NoMemory = ⊤
