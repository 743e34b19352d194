-- Of two lists of first steps of the same events, one begins the other.
use Rattle.std.proofs.Common.{[], ◌++◌, ◌+◌, ◌∙◌, ◌∷◌, ◌≡◌, ◌⊎◌, List, None, Option, Some, ap, append-nil, append_assoc, arith, inl, inr, length, length-append, refl, subst, sym, ℕ}
use Rattle.base.proofs.Exports.{same_Some}
use Rattle.update_machine.specs.Exports.{Answers, JournalAnswersSoFar, AreAllMachineEventSteps, AreJournalFirstSteps, AreFirstMachineStepsOf, AreFirstMachineEventSteps, AreMachineSteps, AreMachineStepsOf, Drain, Event, Flush, Item, One, Setting, Step, MachineStepOfRow, journal_after_steps, journal_next_delivery, journal_next_hop, piece}

-- ---- there is one answer to the events of a schedule

-- two steps of the row, each of which is the next one
pub same_next : (next : Option Step) (row : ℕ) (x y : MachineStepOfRow) → x.row ≡ row → y.row ≡ row
    → next ≡ Some x.step → next ≡ Some y.step → x ≡ y
same_next next row x y mine yours first second =
    ap (λ row. record { row = row; step = x.step }) (mine ∙ sym yours)
    ∙ ap (λ step. record { row = y.row; step = step })
    (same_Some x.step y.step (sym first ∙ second))

-- and what is true after the one is true after the other
pub same_onward : (setting : Setting) (before : List Item) (Onward : List Item → Type 0)
    (x y : MachineStepOfRow) → x ≡ y → Onward (before ++ piece setting before y.row y.step)
    → Onward (before ++ piece setting before x.row x.step)
same_onward setting before Onward x y same =
    subst (λ z. Onward (before ++ piece setting before z.row z.step)) (sym same)

-- a flush, or a drain, has one list of steps
all_same : (setting : Setting) (next : List Item → Option Step) (row : ℕ) (before : List Item)
    (one other : List MachineStepOfRow) →
    AreAllMachineEventSteps setting next row before one → AreAllMachineEventSteps setting next row before other → one ≡ other
all_same setting next row before [] [] first second = refl
all_same setting next row before [] (y ∷ other) first second =
    let clash : None ≡ Some y.step = sym first ∙ second.1 in cc
all_same setting next row before (x ∷ one) [] first second =
    let clash : None ≡ Some x.step = sym second ∙ first.1 in cc
all_same setting next row before (x ∷ one) (y ∷ other) first second =
    let same : x ≡ y = same_next (next before) row x y first.0 second.0 first.1 second.1 in
    ap (λ z. z ∷ one) same ∙ ap (λ zs. y ∷ zs)
    (all_same setting next row (before ++ piece setting before x.row x.step) one other first.2
    (same_onward setting before (λ js. AreAllMachineEventSteps setting next row js other) x y same second.2))

pub event_same : (setting : Setting) (row : ℕ) (event : Event) (before : List Item)
    (one other : List MachineStepOfRow) → AreMachineStepsOf setting row event before one
    → AreMachineStepsOf setting row event before other → one ≡ other
event_same setting row (One step) before one other first second = first ∙ sym second
event_same setting row Flush before one other first second = all_same setting journal_next_delivery row
    before one other first second
event_same setting row Drain before one other first second = all_same setting journal_next_hop row before
    one other first second

pub one_list_of_steps : (setting : Setting) (row : ℕ) (events : List Event) (before : List Item)
    (one other : List MachineStepOfRow) →
    AreMachineSteps setting row events before one → AreMachineSteps setting row events before other → one ≡ other
one_list_of_steps setting row [] before one other first second = first ∙ sym second
one_list_of_steps setting row (event ∷ events) before one other first second =
    let mine = event_same setting row event before first.0 second.0 first.3 second.3 in
    let rest : first.1 ≡ second.1 = one_list_of_steps setting (row + 1) events
    (journal_after_steps setting before first.0) first.1 second.1 first.4 (subst (λ steps. AreMachineSteps setting
    (row + 1) events (journal_after_steps setting before steps) second.1) (sym mine) second.4) in
    first.2.split ∙ ap (λ steps. steps ++ first.1) mine ∙ ap (λ steps. second.0 ++ steps) rest
    ∙ sym second.2.split

pub one_answer : (setting : Setting) (events : List Event) (one other : List Item)
    → Answers setting events one → Answers setting events other → one ≡ other
one_answer setting events one other first second = first.written ∙ ap (journal_after_steps setting [])
    (one_list_of_steps setting 1 events [] first.steps second.steps first.allowed second.allowed)
    ∙ sym second.written

-- ---- first steps

-- the second list is the first, and then these
pub record Begins (xs ys : List MachineStepOfRow) : Type 0 where
  pub rest : List MachineStepOfRow
  pub is : ys ≡ xs ++ rest

pub begins_nil : (ys : List MachineStepOfRow) → Begins [] ys
begins_nil ys = record { rest = ys; is = refl }

begins_itself : (xs ys : List MachineStepOfRow) → ys ≡ xs → Begins xs ys
begins_itself xs ys same = record { rest = []; is = same ∙ sym (append-nil xs) }

pub begins_cons : (x y : MachineStepOfRow) (xs ys : List MachineStepOfRow) → x ≡ y → Begins xs ys
    → Begins (x ∷ xs) (y ∷ ys)
begins_cons x y xs ys same begins =
    record { rest = begins.rest; is = ap (λ z. z ∷ ys) (sym same) ∙ ap (λ zs. x ∷ zs) begins.is }

begins_more : (xs ys zs : List MachineStepOfRow) → Begins xs ys → Begins xs (ys ++ zs)
begins_more xs ys zs begins = record {
  rest = begins.rest ++ zs;
  is = cc (begins.is, append_assoc xs begins.rest zs);
}

begins_behind : (ws xs ys : List MachineStepOfRow) → Begins xs ys → Begins (ws ++ xs) (ws ++ ys)
begins_behind ws xs ys begins = record {
  rest = begins.rest;
  is = cc (begins.is, append_assoc ws xs begins.rest);
}

begins_along : (xs ys us vs : List MachineStepOfRow) → us ≡ xs → vs ≡ ys → Begins xs ys → Begins us vs
begins_along xs ys us vs first second begins = record {
  rest = begins.rest;
  is = second ∙ begins.is ∙ ap (λ zs. zs ++ begins.rest) (sym first);
}

-- first steps of a flush, or of a drain, begin all of its steps
some_of_all : (setting : Setting) (next : List Item → Option Step) (row : ℕ) (before : List Item)
    (one all : List MachineStepOfRow) →
    AreFirstMachineEventSteps setting next row before one → AreAllMachineEventSteps setting next row before all → Begins one all
some_of_all setting next row before [] all first second = begins_nil all
some_of_all setting next row before (x ∷ one) [] first second =
    let clash : None ≡ Some x.step = sym second ∙ first.1 in cc
some_of_all setting next row before (x ∷ one) (y ∷ all) first second =
    let same : x ≡ y = same_next (next before) row x y first.0 second.0 first.1 second.1 in
    begins_cons x y one all same
    (some_of_all setting next row (before ++ piece setting before x.row x.step) one all first.2
    (same_onward setting before (λ js. AreAllMachineEventSteps setting next row js all) x y same second.2))

-- of two lists of its first steps, one begins the other
either_cons : (x y : MachineStepOfRow) (xs ys : List MachineStepOfRow) → x ≡ y → Begins xs ys ⊎ Begins ys xs
    → Begins (x ∷ xs) (y ∷ ys) ⊎ Begins (y ∷ ys) (x ∷ xs)
either_cons x y xs ys same (inl begins) = inl (begins_cons x y xs ys same begins)
either_cons x y xs ys same (inr begins) = inr (begins_cons y x ys xs (sym same) begins)

some_either : (setting : Setting) (next : List Item → Option Step) (row : ℕ) (before : List Item)
    (one other : List MachineStepOfRow) → AreFirstMachineEventSteps setting next row before one
    → AreFirstMachineEventSteps setting next row before other → Begins one other ⊎ Begins other one
some_either setting next row before [] other first second = inl (begins_nil other)
some_either setting next row before (x ∷ one) [] first second = inr (begins_nil (x ∷ one))
some_either setting next row before (x ∷ one) (y ∷ other) first second =
    let same : x ≡ y = same_next (next before) row x y first.0 second.0 first.1 second.1 in
    either_cons x y one other same
    (some_either setting next row (before ++ piece setting before x.row x.step) one other first.2
    (same_onward setting before (λ js. AreFirstMachineEventSteps setting next row js other) x y same second.2))

one_step : (step : MachineStepOfRow) (one all : List MachineStepOfRow) → (one ≡ []) ⊎ (one ≡ step ∷ [])
    → all ≡ step ∷ [] → Begins one all
one_step step one all (inl none) is = begins_along [] all one all none refl (begins_nil all)
one_step step one all (inr whole) is = begins_itself one all (is ∙ sym whole)

one_step_either : (step : MachineStepOfRow) (one other : List MachineStepOfRow) → (one ≡ []) ⊎ (one ≡ step ∷ [])
    → (other ≡ []) ⊎ (other ≡ step ∷ []) → Begins one other ⊎ Begins other one
one_step_either step one other first (inr whole) = inl (one_step step one other first whole)
one_step_either step one other first (inl none) =
    inr (begins_along [] one other one none refl (begins_nil one))

event_begins : (setting : Setting) (row : ℕ) (event : Event) (before : List Item)
    (one all : List MachineStepOfRow) → AreFirstMachineStepsOf setting row event before one
    → AreMachineStepsOf setting row event before all → Begins one all
event_begins setting row (One step) before one all first second =
    one_step (record { row = row; step = step }) one all first second
event_begins setting row Flush before one all first second = some_of_all setting journal_next_delivery row
    before one all first second
event_begins setting row Drain before one all first second = some_of_all setting journal_next_hop row before
    one all first second

event_either : (setting : Setting) (row : ℕ) (event : Event) (before : List Item)
    (one other : List MachineStepOfRow) → AreFirstMachineStepsOf setting row event before one
    → AreFirstMachineStepsOf setting row event before other → Begins one other ⊎ Begins other one
event_either setting row (One step) before one other first second =
    one_step_either (record { row = row; step = step }) one other first second
event_either setting row Flush before one other first second = some_either setting journal_next_delivery row
    before one other first second
event_either setting row Drain before one other first second = some_either setting journal_next_hop row
    before one other first second

either_behind : (ws vs xs ys one other : List MachineStepOfRow) → ws ≡ vs → one ≡ ws ++ xs
    → other ≡ vs ++ ys → Begins xs ys ⊎ Begins ys xs → Begins one other ⊎ Begins other one
either_behind ws vs xs ys one other same first second (inl begins) =
    inl (begins_along (ws ++ xs) (ws ++ ys) one other first
    (second ∙ ap (λ us. us ++ ys) (sym same)) (begins_behind ws xs ys begins))
either_behind ws vs xs ys one other same first second (inr begins) =
    inr (begins_along (ws ++ ys) (ws ++ xs) other one (second ∙ ap (λ us. us ++ ys) (sym same))
    first (begins_behind ws ys xs begins))

pub first_steps_either : (setting : Setting) (row : ℕ) (events : List Event) (before : List Item)
    (one other : List MachineStepOfRow) → AreJournalFirstSteps setting row events before one
    → AreJournalFirstSteps setting row events before other → Begins one other ⊎ Begins other one
first_steps_either setting row [] before one other first second =
    inl (begins_itself one other (second ∙ sym first))
first_steps_either setting row (event ∷ events) before one other (inl first) (inl second) =
    event_either setting row event before one other first second
first_steps_either setting row (event ∷ events) before one other (inl first) (inr second) =
    inl (begins_along one (second.0 ++ second.1) one other refl second.2.split (begins_more one
    second.0 second.1 (event_begins setting row event before one second.0 first second.3)))
first_steps_either setting row (event ∷ events) before one other (inr first) (inl second) =
    inr (begins_along other (first.0 ++ first.1) other one refl first.2.split (begins_more other
    first.0 first.1 (event_begins setting row event before other first.0 second first.3)))
first_steps_either setting row (event ∷ events) before one other (inr first) (inr second) =
    let mine = event_same setting row event before first.0 second.0 first.3 second.3 in
    either_behind first.0 second.0 first.1 second.1 one other mine first.2.split second.2.split
    (first_steps_either setting (row + 1) events (journal_after_steps setting before first.0) first.1
    second.1 first.4 (rw mine second.4))

-- and first steps begin all steps
pub first_begin_all : (setting : Setting) (row : ℕ) (events : List Event) (before : List Item)
    (one all : List MachineStepOfRow) → AreJournalFirstSteps setting row events before one
    → AreMachineSteps setting row events before all → Begins one all
first_begin_all setting row [] before one all first whole =
    record { rest = []; is = whole ∙ ap (λ steps. steps ++ []) (sym first) }
first_begin_all setting row (event ∷ events) before one all (inl first) whole = begins_along one
    (whole.0 ++ whole.1) one all refl whole.2.split (begins_more one whole.0 whole.1
    (event_begins setting row event before one whole.0 first whole.3))
first_begin_all setting row (event ∷ events) before one all (inr first) whole =
    let mine = event_same setting row event before whole.0 first.0 whole.3 first.3 in
    begins_along (first.0 ++ first.1) (first.0 ++ whole.1) one all first.2.split
    (whole.2.split ∙ ap (λ steps. steps ++ whole.1) mine)
    (begins_behind first.0 first.1 whole.1 (first_begin_all setting (row + 1) events
    (journal_after_steps setting before first.0) first.1 whole.1 first.4 (rw mine at whole.4)))

no_rest : (rest : List MachineStepOfRow) → length rest ≡ 0 → rest ≡ []
no_rest [] none = refl
no_rest (x ∷ rest) none = cc

as_long : (xs ys : List MachineStepOfRow) → length xs ≡ length ys → Begins xs ys → xs ≡ ys
as_long xs ys same begins = sym (begins.is ∙ ap (λ rest. xs ++ rest) (no_rest begins.rest
    (omega (arith, same, ap length begins.is ∙ length-append xs begins.rest))) ∙ append-nil xs)

-- so there is one answer by so many steps
pub one_by_steps : (setting : Setting) (events : List Event) (one other : List Item)
    (first : JournalAnswersSoFar setting events one) (second : JournalAnswersSoFar setting events other) →
    length first.steps ≡ length second.steps → one ≡ other
one_by_steps setting events one other first second same =
    first.written ∙ ap (journal_after_steps setting []) (by_either (first_steps_either setting 1 events []
    first.steps second.steps first.allowed second.allowed)) ∙ sym second.written
  where
    by_either : Begins first.steps second.steps ⊎ Begins second.steps first.steps
        → first.steps ≡ second.steps
    by_either (inl begins) = as_long first.steps second.steps same begins
    by_either (inr begins) = sym (as_long second.steps first.steps (sym same) begins)
