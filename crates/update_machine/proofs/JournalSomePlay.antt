-- Where there is an answer there is a play: all of it, or the steps before the first one that would
-- begin full.
use Rattle.std.proofs.Common.{[], ◌++◌, ◌+◌, ◌↔◌, ◌∙◌, ◌∷◌, ◌≡◌, ◌≤◌, ◌⊎◌, All, List, None, Option, Some, ap, append_assoc, arith, inl, inr, length, option_map, refl, subst, suc, sym, take_all, ℕ}
use Rattle.update_machine.specs.Exports.{Answers, JournalAnswersSoFar, JournalAnswersWithRoom, AreAllMachineEventSteps, AreAnsweredByJournal, AreJournalFirstSteps, AreFirstMachineStepsOf, AreFirstMachineEventSteps, AreMachineSteps, AreMachineStepsOf, JournalBeginsAnswer, Deliver, Drain, Event, Flush, HasMachinePlay, MachineJournalHasRoom, MachineJournalsHaveRoom, Hop, IsMachineJournalFull, IsMachinePlay, Item, One, Setting, Step, MachineStepOfRow, JournalStopsFull, journal_after_steps, machine_count_of, machine_journal_full_at, is_machine_sending_item, journal_next_delivery, journal_next_hop, journal_next_message, next_travelling, next_waiting, piece}
use Rattle.base.proofs.Exports.{⊤, AllByRecursion, cases_lt}
use Rattle.policy_rules.proofs.PolicyRulesCallerLemmas.{append_not_nil}
use Rattle.update_machine.proofs.JournalFirstSteps.{Begins, begins_cons, begins_nil, first_begin_all, first_steps_either, one_answer}

-- ---- an answer answers as far as it goes, and begins itself

pub all_are_first : (setting : Setting) (row : ℕ) (events : List Event) (before : List Item)
    (steps : List MachineStepOfRow) → AreMachineSteps setting row events before steps
    → AreJournalFirstSteps setting row events before steps
all_are_first setting row [] before steps all = all
all_are_first setting row (event ∷ events) before steps all = inr (
  all.0,
  all.1,
  all.2,
  all.3,
  all_are_first setting (row + 1) events (journal_after_steps setting before all.0) all.1 all.4,
)

pub answers_so_far : (setting : Setting) (events : List Event) (journal : List Item)
    → Answers setting events journal → JournalAnswersSoFar setting events journal
answers_so_far setting events journal answers = record {
  steps = answers.steps;
  allowed = all_are_first setting 1 events [] answers.steps answers.allowed;
  written = answers.written;
}

pub begins_itself : (setting : Setting) (events : List Event) (journal : List Item)
    → JournalAnswersSoFar setting events journal → JournalBeginsAnswer setting events journal
begins_itself setting events journal answers = record {
  whole = journal;
  answers = answers;
  length = length journal;
  written = sym (take_all (length journal) journal (omega arith));
}

-- ---- what the steps of events are: whatever is true of each single one, each delivery, each hop

-- a kind of steps that has each delivery and each hop
pub record HasNexts (Is : Step → Type 0) : Type 0 where
  pub delivery : (number : ℕ) → Is (Deliver number)
  pub hop : (packet : ℕ) → Is (Hop packet)

-- an event whose single step is of the kind
abbrev pub IsEventOf : (Step → Type 0) → Event → Type 0
IsEventOf Is (One step) = Is step
IsEventOf Is Flush = ⊤
IsEventOf Is Drain = ⊤

abbrev pub AreOf : (Step → Type 0) → List MachineStepOfRow → Type 0
AreOf Is steps = AllByRecursion (λ (next : MachineStepOfRow). Is next.step) steps

pub are_both : (Is : Step → Type 0) (mine rest : List MachineStepOfRow) → AreOf Is mine → AreOf Is rest
    → AreOf Is (mine ++ rest)
are_both Is [] rest one other = other
are_both Is (next ∷ mine) rest one other = (one.0, are_both Is mine rest one.1 other)

-- each next step is of the kind
abbrev IsNext : (Step → Type 0) → (List Item → Option Step) → Type 0
IsNext Is next = (before : List Item) (step : Step) → next before ≡ Some step → Is step

next_is : (Is : Step → Type 0) (make : ℕ → Step) → ((n : ℕ) → Is (make n)) → (o : Option ℕ)
    (step : Step) → option_map make o ≡ Some step → Is step
next_is Is make all None step e = absurd cc
next_is Is make all (Some n) step e = let same : make n ≡ step = cc in subst Is same (all n)

hops : (Is : Step → Type 0) → HasNexts Is → IsNext Is journal_next_hop
hops Is has before = next_is Is Hop has.hop (next_travelling before)

deliveries : (Is : Step → Type 0) → HasNexts Is → IsNext Is journal_next_delivery
deliveries Is has before = next_is Is Deliver has.delivery (next_waiting before)

some_are : (Is : Step → Type 0) (setting : Setting) (next : List Item → Option Step)
    → IsNext Is next → (row : ℕ) (before : List Item) (steps : List MachineStepOfRow)
    → AreFirstMachineEventSteps setting next row before steps → AreOf Is steps
some_are Is setting next are row before [] some = tt
some_are Is setting next are row before (first ∷ steps) some = (
  are before first.step some.1,
  some_are Is setting next are row (before ++ piece setting before first.row first.step) steps
      some.2,
)

pub firsts_are : (Is : Step → Type 0) → HasNexts Is → (setting : Setting) (row : ℕ) (event : Event)
    (before : List Item) (steps : List MachineStepOfRow) → IsEventOf Is event
    → AreFirstMachineStepsOf setting row event before steps → AreOf Is steps
firsts_are Is has setting row (One step) before steps is (inl none) = subst (AreOf Is) (sym none) tt
firsts_are Is has setting row (One step) before steps is (inr one) = rw one (is, tt)
firsts_are Is has setting row Flush before steps is are =
    some_are Is setting journal_next_delivery (deliveries Is has) row before steps are
firsts_are Is has setting row Drain before steps is are =
    some_are Is setting journal_next_hop (hops Is has) row before steps are

-- all steps are first ones
all_some : (setting : Setting) (next : List Item → Option Step) (row : ℕ) (before : List Item)
    (steps : List MachineStepOfRow) → AreAllMachineEventSteps setting next row before steps
    → AreFirstMachineEventSteps setting next row before steps
all_some setting next row before [] all = tt
all_some setting next row before (first ∷ steps) all = (
  all.0,
  all.1,
  all_some setting next row (before ++ piece setting before first.row first.step) steps all.2,
)

pub all_first : (setting : Setting) (row : ℕ) (event : Event) (before : List Item)
    (steps : List MachineStepOfRow) → AreMachineStepsOf setting row event before steps
    → AreFirstMachineStepsOf setting row event before steps
all_first setting row (One step) before steps all = inr all
all_first setting row Flush before steps all = all_some setting journal_next_delivery row before steps all
all_first setting row Drain before steps all = all_some setting journal_next_hop row before steps all

pub event_steps_are : (Is : Step → Type 0) → HasNexts Is → (setting : Setting) (row : ℕ)
    (event : Event) (before : List Item) (steps : List MachineStepOfRow) → IsEventOf Is event
    → AreMachineStepsOf setting row event before steps → AreOf Is steps
event_steps_are Is has setting row event before steps is all = firsts_are Is has setting row event
    before steps is (all_first setting row event before steps all)

-- and so are the first steps of events
pub first_steps_are : (Is : Step → Type 0) → HasNexts Is → (setting : Setting) (row : ℕ)
    (events : List Event) (before : List Item) (steps : List MachineStepOfRow)
    → All (IsEventOf Is) events → AreJournalFirstSteps setting row events before steps → AreOf Is steps
first_steps_are Is has setting row [] before steps is are = subst (AreOf Is) (sym are) tt
first_steps_are Is has setting row (event ∷ events) before steps is (inl are) =
    firsts_are Is has setting row event before steps (is 0 event (omega arith)) are
first_steps_are Is has setting row (event ∷ events) before steps is (inr are) = subst (AreOf Is)
    (sym are.2.split) (are_both Is are.0 are.1 (event_steps_are Is has setting row event before
    are.0 (is 0 event (omega arith)) are.3) (first_steps_are Is has setting (row + 1) events
    (journal_after_steps setting before are.0) are.1 (λ k d within. is (suc k) d (omega arith)) are.4))

-- ---- there is one play of the events of a schedule

pub full_by_count : (journal : List Item) → IsMachineJournalFull journal ↔ machine_journal_full_at ≤ machine_count_of is_machine_sending_item journal
unfolding journal_next_message
full_by_count journal = (λ full. omega (arith, full), λ many. omega (arith, many))

-- ---- room

pub rooms_append : (setting : Setting) (before : List Item) (xs ys : List MachineStepOfRow)
    → MachineJournalsHaveRoom setting before xs → MachineJournalsHaveRoom setting (journal_after_steps setting before xs) ys
    → MachineJournalsHaveRoom setting before (xs ++ ys)
rooms_append setting before [] ys room more = more
rooms_append setting before (x ∷ xs) ys room more =
    (room.0, rooms_append setting (before ++ piece setting before x.row x.step) xs ys room.1 more)

-- each of the steps began with room
room_before : (setting : Setting) (before : List Item) (xs : List MachineStepOfRow) (y : MachineStepOfRow)
    (zs : List MachineStepOfRow) → MachineJournalsHaveRoom setting before (xs ++ y ∷ zs)
    → MachineJournalHasRoom (journal_after_steps setting before xs)
room_before setting before [] y zs room = room.0
room_before setting before (x ∷ xs) y zs room =
    room_before setting (before ++ piece setting before x.row x.step) xs y zs room.1

-- so none of them is where a play stops
none_stops : {X : Type 0} (setting : Setting) (xs : List MachineStepOfRow) (x : MachineStepOfRow)
    (ys : List MachineStepOfRow) → IsMachineJournalFull (journal_after_steps setting [] xs) → MachineJournalsHaveRoom setting [] ys
    → Begins (xs ++ x ∷ []) ys → X
none_stops setting xs x ys full room begins =
    let there : MachineJournalHasRoom (journal_after_steps setting [] xs) = room_before setting [] xs x begins.rest
    (subst (MachineJournalsHaveRoom setting []) (begins.is ∙ append_assoc xs (x ∷ []) begins.rest) room) in
    absurd (omega (arith, full, there))

-- ---- lists with a last element

pub nil_front : (xs ys : List MachineStepOfRow) → [] ≡ xs ++ ys → xs ≡ []
nil_front [] ys is = refl
nil_front (x ∷ xs) ys is = cc is

same_ends : (xs ys : List MachineStepOfRow) (x y : MachineStepOfRow) → xs ++ x ∷ [] ≡ ys ++ y ∷ []
    → (xs ≡ ys) × (x ≡ y)
same_ends [] [] x y is = (refl, cc is)
same_ends [] (b ∷ ys) x y is = absurd (append_not_nil ys y (cc is))
same_ends (a ∷ xs) [] x y is = absurd (append_not_nil xs x (cc is))
same_ends (a ∷ xs) (b ∷ ys) x y is = let rest = same_ends xs ys x y (cc is) in
    (ap (λ z. z ∷ xs) (cc is) ∙ ap (λ zs. b ∷ zs) rest.0, rest.1)

-- what begins a list is the whole list, or begins it without its last element
whole_or_front : (xs ys : List MachineStepOfRow) (y : MachineStepOfRow) → Begins xs (ys ++ y ∷ [])
    → (xs ≡ ys ++ y ∷ []) ⊎ Begins xs ys
whole_or_front [] ys y begins = inr (begins_nil ys)
whole_or_front (x ∷ xs) [] y begins = let tails : [] ≡ xs ++ begins.rest = cc begins.is in
    inl (ap (λ zs. x ∷ zs) (nil_front xs begins.rest tails) ∙ ap (λ z. z ∷ []) (sym (cc begins.is)))
whole_or_front (x ∷ xs) (z ∷ ys) y begins =
    let tails : ys ++ y ∷ [] ≡ xs ++ begins.rest = cc begins.is in
    by (sym (cc begins.is)) (whole_or_front xs ys y (record { rest = begins.rest; is = tails }))
  where
    by : x ≡ z → (xs ≡ ys ++ y ∷ []) ⊎ Begins xs ys
        → (x ∷ xs ≡ z ∷ ys ++ y ∷ []) ⊎ Begins (x ∷ xs) (z ∷ ys)
    by heads (inl same) = inl (ap (λ w. w ∷ xs) heads ∙ ap (λ ws. z ∷ ws) same)
    by heads (inr front) = inr (begins_cons x z xs ys heads front)

-- ---- plays

-- two stops, of which the first one's steps begin the other's
stops_same : (setting : Setting) (events : List Event) (one other : List Item) (row last : ℕ)
    (first : JournalStopsFull setting events one row) (second : JournalStopsFull setting events other last)
    → Begins (first.steps ++ first.next ∷ []) (second.steps ++ second.next ∷ [])
    → (one ≡ other) × (row ≡ last)
stops_same setting events one other row last first second begins =
    by (whole_or_front (first.steps ++ first.next ∷ []) second.steps second.next begins)
  where
    full : IsMachineJournalFull (journal_after_steps setting [] first.steps)
    full = subst IsMachineJournalFull first.written first.full

    by : (first.steps ++ first.next ∷ [] ≡ second.steps ++ second.next ∷ [])
        ⊎ Begins (first.steps ++ first.next ∷ []) second.steps → (one ≡ other) × (row ≡ last)
    by (inl same) =
        let (steps, next) = same_ends first.steps second.steps first.next second.next same in (
          first.written ∙ ap (journal_after_steps setting []) steps ∙ sym second.written,
          sym first.of_row ∙ ap (λ step. step.row) next ∙ second.of_row,
        )
    by (inr front) = none_stops setting first.steps first.next second.steps full second.room front

one_stop : (setting : Setting) (events : List Event) (one other : List Item) (row last : ℕ)
    → JournalStopsFull setting events one row → JournalStopsFull setting events other last
    → (one ≡ other) × (row ≡ last)
one_stop setting events one other row last first second =
    by (first_steps_either setting 1 events [] (first.steps ++ first.next ∷ [])
    (second.steps ++ second.next ∷ []) first.allowed second.allowed)
  where
    by : Begins (first.steps ++ first.next ∷ []) (second.steps ++ second.next ∷ [])
        ⊎ Begins (second.steps ++ second.next ∷ []) (first.steps ++ first.next ∷ [])
        → (one ≡ other) × (row ≡ last)
    by (inl begins) = stops_same setting events one other row last first second begins
    by (inr begins) =
        let (journals, rows) = stops_same setting events other one last row second first begins in
        (sym journals, sym rows)

-- a play that stops has no whole one beside it
not_both : {X : Type 0} (setting : Setting) (events : List Event) (one other : List Item) (row : ℕ)
    → JournalAnswersWithRoom setting events one → JournalStopsFull setting events other row → X
not_both setting events one other row whole stop = none_stops setting stop.steps stop.next
    whole.answers.steps (subst IsMachineJournalFull stop.written stop.full) whole.room (first_begin_all setting 1
    events [] (stop.steps ++ stop.next ∷ []) whole.answers.steps stop.allowed whole.answers.allowed)

pub one_play : (setting : Setting) (events : List Event) (one other : List Item)
    (stop halt : Option ℕ) → IsMachinePlay setting events one stop → IsMachinePlay setting events other halt
    → (one ≡ other) × (stop ≡ halt)
one_play setting events one other None None first second =
    (one_answer setting events one other first.answers second.answers, refl)
one_play setting events one other None (Some last) first second =
    not_both setting events one other last first second
one_play setting events one other (Some row) None first second =
    not_both setting events other one row second first
one_play setting events one other (Some row) (Some last) first second =
    let (journals, rows) = one_stop setting events one other row last first second in
    (journals, ap Some rows)

-- ---- some play

-- ---- first steps of first steps

some_front : (setting : Setting) (next : List Item → Option Step) (row : ℕ) (before : List Item)
    (xs ys : List MachineStepOfRow) → AreFirstMachineEventSteps setting next row before (xs ++ ys)
    → AreFirstMachineEventSteps setting next row before xs
some_front setting next row before [] ys some = tt
some_front setting next row before (x ∷ xs) ys some = (
  some.0,
  some.1,
  some_front setting next row (before ++ piece setting before x.row x.step) xs ys some.2,
)

one_front : (step : MachineStepOfRow) (xs ys : List MachineStepOfRow)
    → (xs ++ ys ≡ []) ⊎ (xs ++ ys ≡ step ∷ []) → (xs ≡ []) ⊎ (xs ≡ step ∷ [])
one_front step [] ys first = inl refl
one_front step (x ∷ xs) ys (inl none) = cc none
one_front step (x ∷ xs) ys (inr one) = let tail : [] ≡ xs ++ ys = cc one in
    inr (ap (λ zs. x ∷ zs) (nil_front xs ys tail) ∙ ap (λ z. z ∷ []) (cc one))

event_front : (setting : Setting) (row : ℕ) (event : Event) (before : List Item)
    (xs ys : List MachineStepOfRow) → AreFirstMachineStepsOf setting row event before (xs ++ ys)
    → AreFirstMachineStepsOf setting row event before xs
event_front setting row (One step) before xs ys first =
    one_front (record { row = row; step = step }) xs ys first
event_front setting row Flush before xs ys first =
    some_front setting journal_next_delivery row before xs ys first
event_front setting row Drain before xs ys first =
    some_front setting journal_next_hop row before xs ys first

-- the steps go past these ones, by more of them
record GoPast (xs ys mine rest : List MachineStepOfRow) : Type 0 where
  more : List MachineStepOfRow
  is : xs ≡ mine ++ more
  left : rest ≡ more ++ ys

front_or_past : (xs ys mine rest : List MachineStepOfRow) → xs ++ ys ≡ mine ++ rest
    → Begins xs mine ⊎ GoPast xs ys mine rest
front_or_past [] ys mine rest is = inl (begins_nil mine)
front_or_past (x ∷ xs) ys [] rest is = inr (record { more = x ∷ xs; is = refl; left = sym is })
front_or_past (x ∷ xs) ys (m ∷ mine) rest is =
    let tail : xs ++ ys ≡ mine ++ rest = cc is in by (cc is) (front_or_past xs ys mine rest tail)
  where
    by : x ≡ m → Begins xs mine ⊎ GoPast xs ys mine rest
        → Begins (x ∷ xs) (m ∷ mine) ⊎ GoPast (x ∷ xs) ys (m ∷ mine) rest
    by head (inl begins) = inl (begins_cons x m xs mine head begins)
    by head (inr past) = inr (record {
      more = past.more;
      is = ap (λ zs. x ∷ zs) past.is ∙ ap (λ z. z ∷ mine ++ past.more) head;
      left = past.left;
    })

pub first_front : (setting : Setting) (row : ℕ) (events : List Event) (before : List Item)
    (xs ys : List MachineStepOfRow) → AreJournalFirstSteps setting row events before (xs ++ ys)
    → AreJournalFirstSteps setting row events before xs
first_front setting row [] before xs ys none = nil_front xs ys (sym none)
first_front setting row (event ∷ events) before xs ys (inl first) =
    inl (event_front setting row event before xs ys first)
first_front setting row (event ∷ events) before xs ys (inr first) =
    by (first_front setting (row + 1) events (journal_after_steps setting before first.0))
    (front_or_past xs ys first.0 first.1 first.2.split)
  where
    by : ((front back : List MachineStepOfRow) → AreJournalFirstSteps setting (row + 1) events
        (journal_after_steps setting before first.0) (front ++ back) → AreJournalFirstSteps setting
        (row + 1) events (journal_after_steps setting before first.0) front)
        → Begins xs first.0 ⊎ GoPast xs ys first.0 first.1
        → AreJournalFirstSteps setting row (event ∷ events) before xs
    by onward (inl begins) = inl (event_front setting row event before xs begins.rest
        (rw begins.is at (all_first setting row event before first.0 first.3)))
    by onward (inr past) = inr (
      first.0,
      past.more,
      record { split = past.is },
      first.3,
      onward past.more ys (rw past.left at first.4),
    )

-- ---- plays

pub stop_so_far : (setting : Setting) (events : List Event) (journal : List Item) (row : ℕ)
    → JournalStopsFull setting events journal row → JournalAnswersSoFar setting events journal
stop_so_far setting events journal row stop = record {
  steps = stop.steps;
  allowed = first_front setting 1 events [] stop.steps (stop.next ∷ []) stop.allowed;
  written = stop.written;
}

pub stop_begins : (setting : Setting) (events : List Event) (journal : List Item) (row : ℕ)
    → JournalStopsFull setting events journal row → JournalBeginsAnswer setting events journal
stop_begins setting events journal row stop =
    begins_itself setting events journal (stop_so_far setting events journal row stop)

-- the first of the steps that would begin full
record FirstFull (setting : Setting) (before : List Item) (steps : List MachineStepOfRow) : Type 0 where
  done : List MachineStepOfRow
  next : MachineStepOfRow
  rest : List MachineStepOfRow
  split : steps ≡ done ++ next ∷ rest
  room : MachineJournalsHaveRoom setting before done
  full : IsMachineJournalFull (journal_after_steps setting before done)

room_or_full : (setting : Setting) (before : List Item) (steps : List MachineStepOfRow)
    → MachineJournalsHaveRoom setting before steps ⊎ FirstFull setting before steps
room_or_full setting before [] = inl tt
room_or_full setting before (step ∷ steps) = elim (cases_lt machine_journal_full_at (journal_next_message before)) [
  | inl full ↦ inr (record {
    done = [];
    next = step;
    rest = steps;
    split = refl;
    room = tt;
    full = full;
  })
  | inr room ↦
      elim (room_or_full setting (before ++ piece setting before step.row step.step) steps) [
        | inl rooms ↦ inl (room, rooms)
        | inr later ↦ inr (record {
          done = step ∷ later.done;
          next = later.next;
          rest = later.rest;
          split = ap (λ these. step ∷ these) later.split;
          room = (room, later.room);
          full = later.full;
        })
      ]
]

pub play_exists : (setting : Setting) (events : List Event) → AreAnsweredByJournal setting events
    → HasMachinePlay setting events
play_exists setting events answered = by (room_or_full setting [] answered.1.steps) where
  by : MachineJournalsHaveRoom setting [] answered.1.steps ⊎ FirstFull setting [] answered.1.steps
      → HasMachinePlay setting events
  by (inl room) = (answered.0, None, record { answers = answered.1; room = room })
  by (inr stop) = (
    journal_after_steps setting [] stop.done,
    Some stop.next.row,
    record {
      steps = stop.done;
      next = stop.next;
      allowed = first_front setting 1 events [] (stop.done ++ stop.next ∷ []) stop.rest
          (rw (stop.split ∙ sym (append_assoc stop.done (stop.next ∷ []) stop.rest)) at
          (all_are_first setting 1 events [] answered.1.steps answered.1.allowed));
      written = refl;
      room = stop.room;
      full = stop.full;
      of_row = refl;
    },
  )
