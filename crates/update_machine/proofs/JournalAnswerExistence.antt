-- There is an answer exactly if each event has its steps.
use Rattle.std.proofs.Common.{[], ◌++◌, ◌+◌, ◌<◌, ◌↔◌, ◌∙◌, ◌∷◌, ◌≡◌, List, None, Option, Some, ap, append-nil, append_assoc, arith, length, map, refl, subst, suc, sym, zero, ℕ}
use Rattle.update_machine.specs.Exports.{Answers, AreAllMachineEventSteps, AreAnsweredByJournal, AreMachineSteps, AreMachineStepsOf, Event, HaveMachineSteps, Item, One, Setting, Step, MachineStepOfRow, journal_after_steps, piece}
use Rattle.update_machine.proofs.JournalFirstSteps.{one_answer}

-- steps after others write after what those wrote
pub after_append : (setting : Setting) (before : List Item) (steps more : List MachineStepOfRow)
    → journal_after_steps setting before (steps ++ more)
    ≡ journal_after_steps setting (journal_after_steps setting before steps) more
after_append setting before [] more = refl
after_append setting before (next ∷ steps) more =
    after_append setting (before ++ piece setting before next.row next.step) steps more

steps_go_on : (setting : Setting) (row last : ℕ) (events : List Event) (event : Event)
    (before : List Item) (steps mine : List MachineStepOfRow) → last ≡ length events + row
    → AreMachineSteps setting row events before steps
    → AreMachineStepsOf setting last event (journal_after_steps setting before steps) mine
    → AreMachineSteps setting row (events ++ event ∷ []) before (steps ++ mine)
steps_go_on setting row last [] event before steps mine same all more = (
  mine,
  [],
  record { split = ap (λ these. these ++ mine) all ∙ sym (append-nil mine) },
  own,
  refl,
) where
  own : AreMachineStepsOf setting row event before mine
  own = subst (λ n. AreMachineStepsOf setting n event before mine) (same ∙ omega arith)
      (subst (λ these. AreMachineStepsOf setting last event (journal_after_steps setting before these) mine) all
      more)
steps_go_on setting row last (first ∷ events) event before steps mine same all more = (
  all.0,
  all.1 ++ mine,
  record { split = ap (λ these. these ++ mine) all.2.split ∙ append_assoc all.0 all.1 mine },
  all.3,
  steps_go_on setting (row + 1) last events event (journal_after_steps setting before all.0) all.1 mine
      (same ∙ omega arith) all.4 rest,
) where
  rest : AreMachineStepsOf setting last event
      (journal_after_steps setting (journal_after_steps setting before all.0) all.1) mine
  rest = subst (λ js. AreMachineStepsOf setting last event js mine)
      (ap (journal_after_steps setting before) all.2.split ∙ after_append setting before all.0 all.1) more

-- an answer goes on by one more event that has its steps
pub answer_goes_on : (setting : Setting) (events : List Event) (event : Event)
    (journal : List Item) (mine : List MachineStepOfRow) → Answers setting events journal
    → AreMachineStepsOf setting (length events + 1) event journal mine
    → Answers setting (events ++ event ∷ []) (journal_after_steps setting journal mine)
answer_goes_on setting events event journal mine answers more = record {
  steps = answers.steps ++ mine;
  allowed = steps_go_on setting 1 (length events + 1) events event [] answers.steps mine refl
      answers.allowed (rw answers.written at more);
  written = cc (answers.written, after_append setting [] answers.steps mine);
}

pub none_answered : (setting : Setting) → Answers setting [] []
none_answered setting = record { steps = []; allowed = refl; written = refl }

answered_from : (setting : Setting) (all first others : List Event) → all ≡ first ++ others
    → HaveMachineSteps setting all → AreAnsweredByJournal setting first → AreAnsweredByJournal setting all
answered_from setting all first [] same have answered = rw (same ∙ append-nil first) answered
answered_from setting all first (event ∷ others) same have answered =
    let mine = have first event others answered.0 same answered.1 in
    answered_from setting all (first ++ event ∷ []) others
    (same ∙ sym (append_assoc first (event ∷ []) others)) have (
      journal_after_steps setting answered.0 mine.0,
      answer_goes_on setting first event answered.0 mine.0 answered.1 mine.1,
    )

pub answer_exists : (setting : Setting) (events : List Event) → HaveMachineSteps setting events
    → AreAnsweredByJournal setting events
answer_exists setting events have =
    answered_from setting events [] events refl have ([], none_answered setting)

-- ---- the other way

-- the steps of events are those of the first ones, and then those of the others
record Parts (setting : Setting) (row : ℕ) (first : List Event) (event : Event)
    (before : List Item) : Type 0 where
  steps : List MachineStepOfRow
  allowed : AreMachineSteps setting row first before steps
  mine : List MachineStepOfRow
  own : AreMachineStepsOf setting (length first + row) event (journal_after_steps setting before steps) mine

steps_part : (setting : Setting) (row : ℕ) (first : List Event) (event : Event)
    (others : List Event) (before : List Item) (steps : List MachineStepOfRow)
    → AreMachineSteps setting row (first ++ event ∷ others) before steps
    → Parts setting row first event before
steps_part setting row [] event others before steps all = record {
  steps = [];
  allowed = refl;
  mine = all.0;
  own = subst (λ n. AreMachineStepsOf setting n event before all.0) (omega arith) all.3;
}
steps_part setting row (one ∷ first) event others before steps all =
    let rest : Parts setting (row + 1) first event (journal_after_steps setting before all.0) =
    steps_part setting (row + 1) first event others (journal_after_steps setting before all.0) all.1
    all.4 in record {
      steps = all.0 ++ rest.steps;
      allowed = (all.0, rest.steps, record { split = refl }, all.3, rest.allowed);
      mine = rest.mine;
      own = subst (λ js. AreMachineStepsOf setting (length (one ∷ first) + row) event js rest.mine)
          (sym (after_append setting before all.0 rest.steps)) (subst (λ n. AreMachineStepsOf setting n
          event (journal_after_steps setting (journal_after_steps setting before all.0) rest.steps) rest.mine)
          (omega arith) rest.own);
    }

pub answer_has_steps : (setting : Setting) (events : List Event) → AreAnsweredByJournal setting events
    → HaveMachineSteps setting events
answer_has_steps setting events answered first event others journal same answers =
    let parts = steps_part setting 1 first event others [] answered.1.steps
    (subst (λ all. AreMachineSteps setting 1 all [] answered.1.steps) same answered.1.allowed) in
    let written : journal_after_steps setting [] parts.steps ≡ journal =
    one_answer setting first (journal_after_steps setting [] parts.steps) journal
    (record { steps = parts.steps; allowed = parts.allowed; written = refl }) answers in (
      parts.mine,
      subst (λ js. AreMachineStepsOf setting (length first + 1) event js parts.mine) written parts.own,
    )

pub answered_where : (setting : Setting) (events : List Event)
    → AreAnsweredByJournal setting events ↔ HaveMachineSteps setting events
answered_where setting events = (answer_has_steps setting events, answer_exists setting events)

-- ---- single steps

pub steps_answered : (setting : Setting) (steps : List Step) → AreAnsweredByJournal setting (map One steps)
steps_answered setting steps = from setting [] steps ([], none_answered setting) where
  from : (at : Setting) (first : List Event) (others : List Step) → AreAnsweredByJournal at first
      → AreAnsweredByJournal at (first ++ map One others)
  from at first [] answered = subst (AreAnsweredByJournal at) (sym (append-nil first)) answered
  from at first (step ∷ others) answered =
      let mine : List MachineStepOfRow = record { row = length first + 1; step = step } ∷ [] in
      subst (AreAnsweredByJournal at) (append_assoc first (One step ∷ []) (map One others))
      (from at (first ++ One step ∷ []) others (
        journal_after_steps at answered.0 mine,
        answer_goes_on at first (One step) answered.0 mine answered.1 refl,
      ))

-- ---- flushes and drains

-- as long as these facts are true of the journal, each next step keeps them and brings the loop
-- nearer to its end
pub record Nears (setting : Setting) (next : List Item → Option Step) (row : ℕ)
    (holds : List Item → Type 0) (left : List Item → ℕ) : Type 0 where
  pub kept : (before : List Item) (step : Step) → holds before → next before ≡ Some step
      → holds (before ++ piece setting before row step)
  pub nearer : (before : List Item) (step : Step) → holds before → next before ≡ Some step
      → left (before ++ piece setting before row step) < left before

-- so it ends
abbrev pub HasEnd : Setting → (List Item → Option Step) → ℕ → List Item → Type 0
HasEnd setting next row before = (steps : List MachineStepOfRow) × AreAllMachineEventSteps setting next row before steps

-- by one step it comes nearer to its end, if it hasn't come to it
by_step : (setting : Setting) (next : List Item → Option Step) (row : ℕ)
    (holds : List Item → Type 0) (left : List Item → ℕ) → Nears setting next row holds left
    → (most : ℕ) (before : List Item) → holds before → left before < suc most
    → ((after : List Item) → holds after → left after < most → HasEnd setting next row after)
    → (step : Option Step) → next before ≡ step → HasEnd setting next row before
by_step setting next row holds left nears most before here few rest None is = ([], is)
by_step setting next row holds left nears most before here few rest (Some step) is =
    let others = rest (before ++ piece setting before row step) (nears.kept before step here is)
    (omega (arith, few, nears.nearer before step here is)) in
    (record { row = row; step = step } ∷ others.0, (refl, is, others.1))

ends_within : (setting : Setting) (next : List Item → Option Step) (row : ℕ)
    (holds : List Item → Type 0) (left : List Item → ℕ) → Nears setting next row holds left
    → (most : ℕ) (before : List Item) → holds before → left before < most
    → HasEnd setting next row before
ends_within setting next row holds left nears zero before here few = absurd (omega (arith, few))
ends_within setting next row holds left nears (suc most) before here few =
    by_step setting next row holds left nears most before here few
    (ends_within setting next row holds left nears most) (next before) refl

pub loop_ends : (setting : Setting) (next : List Item → Option Step) (row : ℕ)
    (holds : List Item → Type 0) (left : List Item → ℕ) → Nears setting next row holds left
    → (before : List Item) → holds before → HasEnd setting next row before
loop_ends setting next row holds left nears before here =
    ends_within setting next row holds left nears (left before + 1) before here (omega arith)
