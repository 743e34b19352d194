-- An event that takes its steps one after another.
use Rattle.std.proofs.Common.{[], ◌++◌, ◌∙◌, ◌∷◌, ◌≡◌, ◌⊎◌, Bool, List, None, Option, Some, ap, append-nil, append_assoc, false, inl, inr, refl, subst, sym, true, ℕ}
use Rattle.update_machine.specs.Exports.{AreAllMachineEventSteps, AreFirstMachineStepsOf, AreFirstMachineEventSteps, AreMachineStepsOf, Drain, Event, Flush, MachineJournalHasRoom, MachineJournalsHaveRoom, IsMachineJournalFull, Item, One, Setting, Step, MachineStepOfRow, journal_after_steps, journal_next_delivery, journal_next_hop, piece}
use Rattle.update_machine.proofs.Exports.{after_append, rooms_append}
use Rattle.world_log.specs.Exports.{IsLogPart}
use Rattle.replay.specs.Playing.{BeginsReplayEvent, ReplayEventHappens, ReplayEventStopsWithin, replay_next_step}

abbrev pub is_some_step : List MachineStepOfRow → Bool
is_some_step [] = false
is_some_step (step ∷ steps) = true

-- behind the one journal the event took first steps, which led to the other
pub record Took (setting : Setting) (row : ℕ) (event : Event) (is_begun : Bool)
    (start here : List Item) : Type 0 where
  pub steps : List MachineStepOfRow
  pub first : AreFirstMachineStepsOf setting row event start steps
  pub room : MachineJournalsHaveRoom setting start steps
  pub written : here ≡ journal_after_steps setting start steps
  pub items : List Item
  pub grown : here ≡ start ++ items
  pub begun : is_begun ≡ is_some_step steps

none_first : (setting : Setting) (row : ℕ) (event : Event) (start : List Item)
    → AreFirstMachineStepsOf setting row event start []
none_first setting row (One step) start = inl refl
none_first setting row Flush start = tt
none_first setting row Drain start = tt

pub took_none : (setting : Setting) (row : ℕ) (event : Event) (start : List Item)
    → Took setting row event false start start
took_none setting row event start = record {
  steps = [];
  first = none_first setting row event start;
  room = tt;
  written = refl;
  items = [];
  grown = sym (append-nil start);
  begun = refl;
}

-- ---- the next step

abbrev one : ℕ → Step → MachineStepOfRow
one row step = record { row = row; step = step }

some_on : (setting : Setting) (next : List Item → Option Step) (row : ℕ) (start : List Item)
    (steps : List MachineStepOfRow) (step : Step) → AreFirstMachineEventSteps setting next row start steps
    → next (journal_after_steps setting start steps) ≡ Some step
    → AreFirstMachineEventSteps setting next row start (steps ++ one row step ∷ [])
some_on setting next row start [] step some is = (refl, is, tt)
some_on setting next row start (x ∷ steps) step some is = (
  some.0,
  some.1,
  some_on setting next row (start ++ piece setting start x.row x.step) steps step some.2 is,
)

first_on : (setting : Setting) (row : ℕ) (event : Event) (is_begun : Bool) (start : List Item)
    (steps : List MachineStepOfRow) (step : Step) → AreFirstMachineStepsOf setting row event start steps
    → is_begun ≡ is_some_step steps
    → replay_next_step event is_begun (journal_after_steps setting start steps) ≡ Some step
    → AreFirstMachineStepsOf setting row event start (steps ++ one row step ∷ [])
first_on setting row (One own) false start [] step first begun is =
    let same : own ≡ step = cc is in inr (ap (λ s. one row s ∷ []) (sym same))
first_on setting row (One own) true start steps step first begun is = absurd (cc is)
first_on setting row (One own) false start (x ∷ steps) step first begun is = absurd (cc begun)
first_on setting row Flush is_begun start steps step first begun is =
    some_on setting journal_next_delivery row start steps step first is
first_on setting row Drain is_begun start steps step first begun is =
    some_on setting journal_next_hop row start steps step first is

begun_on : (steps : List MachineStepOfRow) (step : MachineStepOfRow) → true ≡ is_some_step (steps ++ step ∷ [])
begun_on [] step = refl
begun_on (x ∷ steps) step = refl

-- with the step that it asks for next, it took first steps too
with_next : (setting : Setting) (row : ℕ) (event : Event) (is_begun : Bool) (start here : List Item)
    (step : Step) → (took : Took setting row event is_begun start here)
    → replay_next_step event is_begun here ≡ Some step
    → AreFirstMachineStepsOf setting row event start (took.steps ++ one row step ∷ [])
with_next setting row event is_begun start here step took is =
    first_on setting row event is_begun start took.steps step took.first took.begun
    (subst (λ journal. replay_next_step event is_begun journal ≡ Some step) took.written is)

-- behind which the journal is
after_next : (setting : Setting) (row : ℕ) (event : Event) (is_begun : Bool)
    (start here : List Item) (step : Step) → (took : Took setting row event is_begun start here)
    → journal_after_steps setting start (took.steps ++ one row step ∷ [])
    ≡ here ++ piece setting here row step
after_next setting row event is_begun start here step took =
    after_append setting start took.steps (one row step ∷ [])
    ∙ ap (λ journal. journal ++ piece setting journal row step) (sym took.written)

pub took_next : (setting : Setting) (row : ℕ) (event : Event) (is_begun : Bool)
    (start here after : List Item) (step : Step) → Took setting row event is_begun start here
    → replay_next_step event is_begun here ≡ Some step → MachineJournalHasRoom here
    → after ≡ here ++ piece setting here row step → Took setting row event true start after
took_next setting row event is_begun start here after step took is room written = record {
  steps = took.steps ++ one row step ∷ [];
  first = with_next setting row event is_begun start here step took is;
  room = rooms_append setting start took.steps (one row step ∷ []) took.room
      (subst MachineJournalHasRoom took.written room, tt);
  written = written ∙ sym (after_next setting row event is_begun start here step took);
  items = took.items ++ piece setting here row step;
  grown = written ∙ ap (λ journal. journal ++ piece setting here row step) took.grown
      ∙ append_assoc start took.items (piece setting here row step);
  begun = begun_on took.steps (one row step);
}

-- whole steps begin the event too
pub begins_whole : (setting : Setting) (row : ℕ) (event : Event) (is_begun : Bool)
    (start here : List Item) → Took setting row event is_begun start here
    → BeginsReplayEvent setting row event start here
begins_whole setting row event is_begun start here took = record {
  steps = took.steps;
  first = took.first;
  written = took.items;
  grown = took.grown;
  lacking = [];
  whole = sym took.written ∙ sym (append-nil here);
}

-- in front of a step that would begin full
pub stops_next : (setting : Setting) (row : ℕ) (event : Event) (is_begun : Bool)
    (start here : List Item) (step : Step) → Took setting row event is_begun start here
    → replay_next_step event is_begun here ≡ Some step → IsMachineJournalFull here
    → ReplayEventStopsWithin setting row event start here
stops_next setting row event is_begun start here step took is full = record {
  steps = took.steps;
  next = one row step;
  first = with_next setting row event is_begun start here step took is;
  of_row = refl;
  room = took.room;
  written = took.written;
  full = full;
}

-- within a step
pub begins_next : (setting : Setting) (row : ℕ) (event : Event) (is_begun : Bool)
    (start here after : List Item) (step : Step) → Took setting row event is_begun start here
    → replay_next_step event is_begun here ≡ Some step
    → IsLogPart here (piece setting here row step) after → BeginsReplayEvent setting row event start after
begins_next setting row event is_begun start here after step took is part = record {
  steps = took.steps ++ one row step ∷ [];
  first = with_next setting row event is_begun start here step took is;
  written = took.items ++ part.written;
  grown = part.grown ∙ ap (λ journal. journal ++ part.written) took.grown
      ∙ append_assoc start took.items part.written;
  lacking = part.rest;
  whole = after_next setting row event is_begun start here step took
      ∙ ap (λ items. here ++ items) part.split ∙ sym (append_assoc here part.written part.rest)
      ∙ ap (λ items. items ++ part.rest) (sym part.grown);
}

-- ---- behind its last step

all_of : (setting : Setting) (next : List Item → Option Step) (row : ℕ) (start : List Item)
    (steps : List MachineStepOfRow) → AreFirstMachineEventSteps setting next row start steps
    → next (journal_after_steps setting start steps) ≡ None → AreAllMachineEventSteps setting next row start steps
all_of setting next row start [] some is = is
all_of setting next row start (x ∷ steps) some is = (
  some.0,
  some.1,
  all_of setting next row (start ++ piece setting start x.row x.step) steps some.2 is,
)

one_of : (step : MachineStepOfRow) (steps : List MachineStepOfRow) → true ≡ is_some_step steps
    → (steps ≡ []) ⊎ (steps ≡ step ∷ []) → steps ≡ step ∷ []
one_of step [] begun (inl none) = absurd (cc begun)
one_of step (x ∷ steps) begun (inl none) = absurd (cc none)
one_of step steps begun (inr is) = is

all_on : (setting : Setting) (row : ℕ) (event : Event) (is_begun : Bool) (start : List Item)
    (steps : List MachineStepOfRow) → AreFirstMachineStepsOf setting row event start steps
    → is_begun ≡ is_some_step steps → replay_next_step event is_begun (journal_after_steps setting start steps)
    ≡ None → AreMachineStepsOf setting row event start steps
all_on setting row (One own) false start steps first begun is = absurd (cc is)
all_on setting row (One own) true start steps first begun is =
    one_of (one row own) steps begun first
all_on setting row Flush is_begun start steps first begun is =
    all_of setting journal_next_delivery row start steps first is
all_on setting row Drain is_begun start steps first begun is =
    all_of setting journal_next_hop row start steps first is

pub happens_whole : (setting : Setting) (row : ℕ) (event : Event) (is_begun : Bool)
    (start here : List Item) → Took setting row event is_begun start here
    → replay_next_step event is_begun here ≡ None → ReplayEventHappens setting row event start here
happens_whole setting row event is_begun start here took is = record {
  steps = took.steps;
  all = all_on setting row event is_begun start took.steps took.first took.begun
      (subst (λ journal. replay_next_step event is_begun journal ≡ None) took.written is);
  room = took.room;
  written = took.written;
}
