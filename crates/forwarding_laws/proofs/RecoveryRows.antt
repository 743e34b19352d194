-- The steps of a schedule that ends in recovery: those of its first rows and of its confirmations,
-- behind which no switch is waited for that is down; resends of each switch; and deliveries of all
-- that waits.
use Rattle.std.proofs.Common.{[], ◌++◌, ◌+◌, ◌||◌, ◌∙◌, ◌∷◌, ◌≡◌, ◌⊎◌, All, Bool, Contains, IsFalse, IsTrue, List, ap, append-nil, append_assoc, arith, eq-eqb, false, inl, inr, length, not, refl, subst, sym, true, ℕ}
use Rattle.base.proofs.Exports.{All-from_recursion, AllByRecursion, recursion_from_All}
use Rattle.update_machine.specs.Exports.{Answers, AreAllMachineEventSteps, AreMachineSteps, Confirm, Event, Flush, Item, One, Resend, Setting, Step, MachineStepOfRow, journal_after_steps, machine_confirm_items, gives_journal_waited_for, is_up, is_waited_for_in_journal, journal_items_then, journal_next_delivery, nothing, piece, machine_settling, machine_switches_of}
use Rattle.steps.specs.Exports.{StepSwitchExists}
use Rattle.update_machine.proofs.Exports.{AreOf, after_append}
use Rattle.control_laws.proofs.Exports.{IsControl, behind_piece, each_range, each_weaker, fact_on, have_weaker, last_more, settling_control, up_more}
use Rattle.convergence_laws.proofs.Exports.{IsIn, in_at}
use Rattle.forwarding_laws.specs.Exports.{ForwardingRecoveryAsksEach, EndsInRecovery}
use Rattle.forwarding_laws.proofs.RecoveryCalmItems.{Calmly, IsCalm, IsCalmStep, Stays, calm_piece, calm_steps, calm_through, control_is_calm, next_confirmed, stays}

-- ---- the steps of rows, and of those behind them

record AreParted (setting : Setting) (row : ℕ) (one other : List Event) (before : List Item)
    (steps : List MachineStepOfRow) : Type 0 where
  mine : List MachineStepOfRow
  rest : List MachineStepOfRow
  later : ℕ
  is : steps ≡ mine ++ rest
  first : AreMachineSteps setting row one before mine
  second : AreMachineSteps setting later other (journal_after_steps setting before mine) rest

steps_part : (setting : Setting) (row : ℕ) (one other : List Event) (before : List Item)
    (steps : List MachineStepOfRow) → AreMachineSteps setting row (one ++ other) before steps
    → AreParted setting row one other before steps
steps_part setting row [] other before steps are = record {
  mine = [];
  rest = steps;
  later = row;
  is = refl;
  first = refl;
  second = are;
}
steps_part setting row (event ∷ one) other before steps are =
    let parts = steps_part setting (row + 1) one other (journal_after_steps setting before are.0) are.1 are.4
    in
    record {
      mine = are.0 ++ parts.mine;
      rest = parts.rest;
      later = parts.later;
      is = cc (are.2.split, parts.is, append_assoc are.0 parts.mine parts.rest);
      first = (are.0, parts.mine, record { split = refl }, are.3, parts.first);
      second = rw (after_append setting before are.0 parts.mine) parts.second;
    }

-- ---- rows of single steps

-- each row is such a step of some switch
abbrev Only : (ℕ → Step) → List Event → Type 0
Only step rows = AllByRecursion (λ row. (s : ℕ) × (row ≡ One (step s))) rows

-- each of the steps is such a step of some switch
abbrev pub AreEach : (ℕ → Step) → List MachineStepOfRow → Type 0
AreEach step steps = AllByRecursion (λ (next : MachineStepOfRow). (s : ℕ) × (next.step ≡ step s)) steps

-- the step is one of these
abbrev pub IsAmong : Step → List MachineStepOfRow → Type 0
IsAmong step [] = ⊥
IsAmong step (next ∷ steps) = (next.step ≡ step) ⊎ IsAmong step steps

singles_each : (setting : Setting) (step : ℕ → Step) (row : ℕ) (rows : List Event)
    (before : List Item) (steps : List MachineStepOfRow) → Only step rows
    → AreMachineSteps setting row rows before steps → AreEach step steps
singles_each setting step row [] before steps only are = subst (AreEach step) (sym are) tt
singles_each setting step row (One first ∷ rows) before steps only are =
    subst (AreEach step) (sym (are.2.split ∙ ap (λ mine. mine ++ are.1) are.3)) (
      (only.0.0, one_same first (step only.0.0) only.0.1),
      singles_each setting step (row + 1) rows (journal_after_steps setting before are.0) are.1 only.1 are.4,
    )
  where
    one_same : (a b : Step) → One a ≡ One b → a ≡ b
    one_same a b same = cc
singles_each setting step row (event ∷ rows) before steps only are =
    let clash : event ≡ One (step only.0.0) = only.0.1 in absurd cc

singles_among : (setting : Setting) (step : Step) (row : ℕ) (rows : List Event)
    (before : List Item) (steps : List MachineStepOfRow) → IsIn (One step) rows
    → AreMachineSteps setting row rows before steps → IsAmong step steps
singles_among setting step row [] before steps is are = absurd is
singles_among setting step row (One first ∷ rows) before steps is are = subst (IsAmong step)
    (sym (are.2.split ∙ ap (λ mine. mine ++ are.1) are.3)) (elim is [
      | inl here ↦ inl (one_same first step here)
      | inr later ↦ inr (singles_among setting step (row + 1) rows
          (journal_after_steps setting before are.0) are.1 later are.4)
    ])
  where
    one_same : (a b : Step) → One a ≡ One b → a ≡ b
    one_same a b same = cc
singles_among setting step row (event ∷ rows) before steps is are = elim is [
  | inl here ↦ absurd cc
  | inr later ↦ rw are.2.split (among_behind step are.0 are.1 (singles_among setting step
      (row + 1) rows (journal_after_steps setting before are.0) are.1 later are.4))
] where
  among_behind : (step : Step) (mine rest : List MachineStepOfRow) → IsAmong step rest
      → IsAmong step (mine ++ rest)
  among_behind step [] rest is = is
  among_behind step (next ∷ mine) rest is = inr (among_behind step mine rest is)

in_contained : {X : Type 0} (x : X) (xs : List X) → Contains xs x → IsIn x xs
in_contained x xs found = in_at xs found.0 x found.1 found.2

pub each_calm : (step : ℕ → Step) → ((s : ℕ) → IsCalmStep (step s)) → (steps : List MachineStepOfRow)
    → AreEach step steps → AreOf IsCalmStep steps
each_calm step calm [] are = tt
each_calm step calm (next ∷ steps) are = (
  subst IsCalmStep (sym are.0.1) (calm are.0.0),
  each_calm step calm steps are.1,
)

-- where the step is taken
pub record IsTakenIn (setting : Setting) (step : Step) (before : List Item)
    (steps : List MachineStepOfRow) : Type 0 where
  pub at : List Item
  pub row : ℕ
  pub first : Calmly setting before at
  pub rest : Calmly setting (at ++ piece setting at row step) (journal_after_steps setting before steps)

pub among_taken : (setting : Setting) (step : Step) (before : List Item) (steps : List MachineStepOfRow)
    → AreOf IsCalmStep steps → IsAmong step steps → IsTakenIn setting step before steps
among_taken setting step before [] calm is = absurd is
among_taken setting step before (next ∷ steps) calm is = elim is [
  | inl here ↦ record {
    at = before;
    row = next.row;
    first = record { items = []; is = sym (append-nil before); have = tt };
    rest = subst (λ of. Calmly setting (before ++ piece setting before next.row of)
        (journal_after_steps setting before (next ∷ steps))) here
        (calm_steps setting (before ++ piece setting before next.row next.step) steps calm.1);
  }
  | inr later ↦ let found = among_taken setting step
      (before ++ piece setting before next.row next.step) steps calm.1 later in record {
        at = found.at;
        row = found.row;
        first = calm_through setting before (before ++ piece setting before next.row next.step)
            found.at (calm_piece setting before next.row next.step calm.0) found.first;
        rest = found.rest;
      }
]

-- ---- confirmations

-- the switch is up, or isn't waited for
abbrev pub IsConfirmed : List Item → ℕ → Type 0
IsConfirmed journal s = IsTrue (is_up journal s || not (is_waited_for_in_journal journal s))

by_parts : (up waited : Bool) → (up ≡ true) ⊎ (waited ≡ false) → IsTrue (up || not waited)
by_parts true waited is = refl
by_parts false true (inl clash) = absurd cc
by_parts false true (inr clash) = absurd cc
by_parts false false is = refl

-- so it is behind its confirmation
confirm_ends : (setting : Setting) (at : List Item) (row s : ℕ)
    → IsConfirmed (at ++ piece setting at row (Confirm s)) s
unfolding machine_confirm_items
confirm_ends setting at row s =
    behind_piece setting at row (Confirm s) (λ j. IsConfirmed j s) (by_up (is_up here s) refl)
  where
    here : List Item
    here = at ++ Item.Row row (Confirm s) ∷ []

    next : Item
    next = Item.OverNow s

    now : List Item
    now = here ++ next ∷ []

    over_now : is_waited_for_in_journal now s ≡ false
    over_now = rw (last_more (gives_journal_waited_for s) here next false, eq-eqb s s refl) refl

    settled : is_waited_for_in_journal (now ++ machine_settling setting now) s ≡ false
    settled = fact_on IsCalm (λ j. IsFalse (is_waited_for_in_journal j s))
        (λ before after calm none. next_confirmed before after s calm none) now
        (machine_settling setting now)
        (have_weaker IsControl IsCalm control_is_calm now _ (settling_control setting now)) over_now

    by_up : (b : Bool) → is_up here s ≡ b → IsConfirmed (here ++ elim b [
      | true ↦ nothing
      | false ↦ journal_items_then (next ∷ []) (machine_settling setting) here
    ]) s
    by_up true e = by_parts _ _ (inl (up_more here Item.Nothing s ∙ e))
    by_up false e = subst (λ j. IsConfirmed j s) (append_assoc here (next ∷ []) (machine_settling setting now))
        (by_parts _ _ (inr settled))

confirmed_on : (before after : List Item) (s : ℕ) → Stays before after → IsConfirmed before s
    → IsConfirmed after s
confirmed_on before after s left is = by_case (is_up before s) refl (is_waited_for_in_journal before s) refl is
  where
    by_case : (up : Bool) → is_up before s ≡ up → (waited : Bool) → is_waited_for_in_journal before s ≡ waited
        → IsTrue (up || not waited) → IsConfirmed after s
    by_case true e waited f is = by_parts _ _ (inl (left.up s ∙ e))
    by_case false e false f is = by_parts _ _ (inr (left.confirmed s f))
    by_case false e true f is = absurd cc

-- ---- together

pub record EndsCalmly (setting : Setting) (journal : List Item) : Type 0 where
  pub first : List MachineStepOfRow
  pub resends : List MachineStepOfRow
  pub flush : List MachineStepOfRow
  pub row : ℕ
  pub written : journal ≡ journal_after_steps setting (journal_after_steps setting (journal_after_steps setting [] first)
      resends) flush
  pub switches : All (IsConfirmed (journal_after_steps setting [] first)) (machine_switches_of setting)
  pub asked : AreEach Resend resends
  pub each : (s : ℕ) → StepSwitchExists setting.net s → IsAmong (Resend s) resends
  pub all : AreAllMachineEventSteps setting journal_next_delivery row
      (journal_after_steps setting (journal_after_steps setting [] first) resends) flush

pub all_confirmed_on : (setting : Setting) (before after : List Item) → Calmly setting before after
    → All (IsConfirmed before) (machine_switches_of setting) → All (IsConfirmed after) (machine_switches_of setting)
all_confirmed_on setting before after calm all = All-from_recursion (IsConfirmed after)
    (machine_switches_of setting) (each_weaker (IsConfirmed before) (IsConfirmed after)
    (λ s is. confirmed_on before after s (stays setting before after calm) is) (machine_switches_of setting)
    (recursion_from_All (IsConfirmed before) (machine_switches_of setting) all))

all_confirmed : (setting : Setting) (before : List Item) (steps : List MachineStepOfRow)
    → AreEach Confirm steps → ((s : ℕ) → StepSwitchExists setting.net s → IsAmong (Confirm s) steps)
    → All (IsConfirmed (journal_after_steps setting before steps)) (machine_switches_of setting)
all_confirmed setting before steps are each =
    All-from_recursion (IsConfirmed (journal_after_steps setting before steps)) (machine_switches_of setting)
    (each_range (IsConfirmed (journal_after_steps setting before steps)) 0 (length setting.net.switches)
    (λ s above below. let taken = among_taken setting (Confirm s) before steps
    (each_calm Confirm (λ t. tt) steps are) (each s (omega (arith, below))) in
    confirmed_on (taken.at ++ piece setting taken.at taken.row (Confirm s))
    (journal_after_steps setting before steps) s
    (stays setting (taken.at ++ piece setting taken.at taken.row (Confirm s))
    (journal_after_steps setting before steps) taken.rest)
    (confirm_ends setting taken.at taken.row s)))

-- the steps of a flush alone
flush_alone : (setting : Setting) (row : ℕ) (before : List Item) (steps : List MachineStepOfRow)
    → AreMachineSteps setting row (Flush ∷ []) before steps → AreAllMachineEventSteps setting journal_next_delivery row before steps
flush_alone setting row before steps are = subst (AreAllMachineEventSteps setting journal_next_delivery row before)
    (sym (are.2.split ∙ ap (λ rest. are.0 ++ rest) are.4 ∙ append-nil are.0)) are.3

-- the journal of rows that leave each switch up, or not waited for, resends of each, and a flush
pub ends_by : (setting : Setting) (rows resends : List Event) (journal : List Item)
    → ForwardingRecoveryAsksEach setting.net Resend resends → Answers setting (rows ++ resends ++ Flush ∷ []) journal
    → ((steps : List MachineStepOfRow) → AreMachineSteps setting 1 rows [] steps
    → All (IsConfirmed (journal_after_steps setting [] steps)) (machine_switches_of setting))
    → (ends : EndsCalmly setting journal) × AreMachineSteps setting 1 rows [] ends.first
ends_by setting rows resends journal asks answers confirms = (
  record {
    first = resending.mine;
    resends = resending.rest;
    flush = flushing.rest;
    row = flushing.later;
    written = cc
        (answers.written, flushing.is, after_append setting [] flushing.mine flushing.rest, asked);
    switches = confirms resending.mine resending.first;
    asked = singles_each setting Resend resending.later resends _ resending.rest
        (recursion_from_All _ resends asks.only) resending.second;
    each = λ s there. singles_among setting (Resend s) resending.later resends _ resending.rest
        (in_contained (One (Resend s)) resends (asks.each s there)) resending.second;
    all = rw asked at (flush_alone setting flushing.later (journal_after_steps setting [] flushing.mine)
        flushing.rest flushing.second);
  },
  resending.first,
) where
  flushing : AreParted setting 1 (rows ++ resends) (Flush ∷ []) [] answers.steps
  flushing = steps_part setting 1 (rows ++ resends) (Flush ∷ []) [] answers.steps answers.allowed

  resending : AreParted setting 1 rows resends [] flushing.mine
  resending = steps_part setting 1 rows resends [] flushing.mine flushing.first

  asked : journal_after_steps setting [] flushing.mine
      ≡ journal_after_steps setting (journal_after_steps setting [] resending.mine) resending.rest
  asked = cc (resending.is, after_append setting [] resending.mine resending.rest)

-- rows that confirm each switch leave it so
confirms_leave : (setting : Setting) (front confirms : List Event) (steps : List MachineStepOfRow)
    → ForwardingRecoveryAsksEach setting.net Confirm confirms → AreMachineSteps setting 1 (front ++ confirms) [] steps
    → All (IsConfirmed (journal_after_steps setting [] steps)) (machine_switches_of setting)
confirms_leave setting front confirms steps asks are =
    rw (ap (journal_after_steps setting []) parts.is ∙ after_append setting [] parts.mine parts.rest)
    (all_confirmed setting (journal_after_steps setting [] parts.mine) parts.rest (singles_each setting
    Confirm parts.later confirms _ parts.rest (recursion_from_All _ confirms asks.only)
    parts.second) (λ s there. singles_among setting (Confirm s) parts.later confirms _ parts.rest
    (in_contained (One (Confirm s)) confirms (asks.each s there)) parts.second))
  where
    parts : AreParted setting 1 front confirms [] steps
    parts = steps_part setting 1 front confirms [] steps are

pub ends_calmly : (setting : Setting) (events : List Event) (journal : List Item)
    → EndsInRecovery setting.net events → Answers setting events journal
    → EndsCalmly setting journal
ends_calmly setting events journal ends answers = (ends_by setting
    (ends.front ++ ends.confirms) ends.resends journal ends.resent (rw ends.ends at answers)
    (λ steps are. confirms_leave setting ends.front ends.confirms steps ends.confirmed are)).0
