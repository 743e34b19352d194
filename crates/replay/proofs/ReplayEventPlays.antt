-- Plays that go on by the steps of events.
use Rattle.std.proofs.Common.{[], ◌++◌, ◌+◌, ◌<◌, ◌∙◌, ◌∷◌, ◌≡◌, List, None, Option, Some, add-one, ap, append_assoc, drop, drop-cons, get_or, inl, inr, length, refl, subst, sym, ℕ}
use Rattle.update_machine.specs.Exports.{AreJournalFirstSteps, AreMachineSteps, Event, MachineJournalsHaveRoom, IsMachineJournalFull, IsMachinePlay, Item, Setting, MachineStepOfRow, journal_after_steps}
use Rattle.update_machine.proofs.Exports.{after_append, rooms_append}
use Rattle.replay.specs.Playing.{ReplayEventHappens, ReplayEventStopsWithin}

-- the journal is what stood before and the pieces of all steps of these events, of which the first
-- has this row; each began with room
pub record GoesOn (setting : Setting) (before : List Item) (row : ℕ) (events : List Event)
    (journal : List Item) : Type 0 where
  pub steps : List MachineStepOfRow
  pub allowed : AreMachineSteps setting row events before steps
  pub room : MachineJournalsHaveRoom setting before steps
  pub written : journal ≡ journal_after_steps setting before steps

-- the same of first steps, in front of a step of a row that would begin full
pub record StopsOn (setting : Setting) (before : List Item) (row : ℕ) (events : List Event)
    (journal : List Item) (at : ℕ) : Type 0 where
  pub steps : List MachineStepOfRow
  pub next : MachineStepOfRow
  pub allowed : AreJournalFirstSteps setting row events before (steps ++ next ∷ [])
  pub written : journal ≡ journal_after_steps setting before steps
  pub room : MachineJournalsHaveRoom setting before steps
  pub full : IsMachineJournalFull journal
  pub of_row : next.row ≡ at

-- a play of these events goes on from this journal to that one
abbrev pub PlaysOn : Setting → List Item → ℕ → List Event → List Item → Option ℕ → Type 0
PlaysOn setting before row events journal None = GoesOn setting before row events journal
PlaysOn setting before row events journal (Some at) = StopsOn setting before row events journal at

-- ---- one more event

room_on : (setting : Setting) (before after : List Item) (mine rest : List MachineStepOfRow)
    → after ≡ journal_after_steps setting before mine → MachineJournalsHaveRoom setting before mine
    → MachineJournalsHaveRoom setting after rest → MachineJournalsHaveRoom setting before (mine ++ rest)
room_on setting before after mine rest written room more = rooms_append setting before mine rest
    room (subst (λ journal. MachineJournalsHaveRoom setting journal rest) written more)

written_on : (setting : Setting) (before after whole : List Item) (mine rest : List MachineStepOfRow)
    → after ≡ journal_after_steps setting before mine → whole ≡ journal_after_steps setting after rest
    → whole ≡ journal_after_steps setting before (mine ++ rest)
written_on setting before after whole mine rest written more =
    more ∙ ap (λ journal. journal_after_steps setting journal rest) written
    ∙ sym (after_append setting before mine rest)

plays_on : (setting : Setting) (before after whole : List Item) (row : ℕ) (event : Event)
    (events : List Event) (stop : Option ℕ) → ReplayEventHappens setting row event before after
    → PlaysOn setting after (row + 1) events whole stop
    → PlaysOn setting before row (event ∷ events) whole stop
plays_on setting before after whole row event events None happens rest = record {
  steps = happens.steps ++ rest.steps;
  allowed = (
    happens.steps,
    rest.steps,
    record { split = refl },
    happens.all,
    subst (λ journal. AreMachineSteps setting (row + 1) events journal rest.steps) happens.written
        rest.allowed,
  );
  room = room_on setting before after happens.steps rest.steps happens.written happens.room
      rest.room;
  written = written_on setting before after whole happens.steps rest.steps happens.written
      rest.written;
}
plays_on setting before after whole row event events (Some at) happens rest = record {
  steps = happens.steps ++ rest.steps;
  next = rest.next;
  allowed = inr (
    happens.steps,
    rest.steps ++ rest.next ∷ [],
    record { split = append_assoc happens.steps rest.steps (rest.next ∷ []) },
    happens.all,
    subst (λ journal. AreJournalFirstSteps setting (row + 1) events journal (rest.steps ++ rest.next ∷ []))
        happens.written rest.allowed,
  );
  written = written_on setting before after whole happens.steps rest.steps happens.written
      rest.written;
  room = room_on setting before after happens.steps rest.steps happens.written happens.room
      rest.room;
  full = rest.full;
  of_row = rest.of_row;
}

-- the next event is before those that are left
pub plays_on_by : (setting : Setting) (before after whole : List Item) (row : ℕ)
    (events : List Event) (i : ℕ) (d : Event) (stop : Option ℕ) → i < length events
    → ReplayEventHappens setting row (get_or events i d) before after
    → PlaysOn setting after (row + 1) (drop (i + 1) events) whole stop
    → PlaysOn setting before row (drop i events) whole stop
plays_on_by setting before after whole row events i d stop within happens rest =
    let there = plays_on setting before after whole row (get_or events i d) (drop (i + 1) events)
    stop happens rest in
    rw (drop-cons events i d within, ← add-one i) there

-- ---- where a play ends

pub plays_no_more : (setting : Setting) (journal : List Item) (row : ℕ)
    → PlaysOn setting journal row [] journal None
plays_no_more setting journal row = record { steps = []; allowed = refl; room = tt; written = refl }

-- within the next event, of which a step would begin full
pub stops_by : (setting : Setting) (before after : List Item) (row : ℕ) (events : List Event)
    (i : ℕ) (d : Event) → i < length events
    → ReplayEventStopsWithin setting row (get_or events i d) before after
    → PlaysOn setting before row (drop i events) after (Some row)
stops_by setting before after row events i d within stops =
    let there : PlaysOn setting before row (get_or events i d ∷ drop (i + 1) events) after
    (Some row) = record {
      steps = stops.steps;
      next = stops.next;
      allowed = inl stops.first;
      written = stops.written;
      room = stops.room;
      full = stops.full;
      of_row = stops.of_row;
    } in
    rw (drop-cons events i d within, ← add-one i) there

-- ---- from the start

pub plays_from_start : (setting : Setting) (events : List Event) (whole : List Item)
    (stop : Option ℕ) → PlaysOn setting [] 1 events whole stop → IsMachinePlay setting events whole stop
plays_from_start setting events whole None rest = record {
  answers = record { steps = rest.steps; allowed = rest.allowed; written = rest.written };
  room = rest.room;
}
plays_from_start setting events whole (Some at) rest = record {
  steps = rest.steps;
  next = rest.next;
  allowed = rest.allowed;
  written = rest.written;
  room = rest.room;
  full = rest.full;
  of_row = rest.of_row;
}
