-- The packet rows of the steps of events are those of the events.
use Rattle.std.proofs.Common.{[], ◌++◌, ◌+◌, ◌-◌, ◌∙◌, ◌∷◌, ◌≡◌, ◌≤◌, ◌⊎◌, Bool, List, None, Option, Some, ap, append-nil, append_assoc, arith, false, inl, inr, refl, subst, suc, sym, take, true, ℕ, rules}
use Rattle.update_machine.specs.Exports.{Answers, AreJournalFirstSteps, AreFirstMachineStepsOf, AreFirstMachineEventSteps, AreMachineSteps, AreMachineStepsOf, Drain, Event, Flush, JournalItemsHaveCauses, Header, IsMachinePlay, Item, One, Packet, Setting, Step, MachineStepOfRow, journal_after_steps, journal_items_then, machine_lookup_items, journal_next_delivery, journal_next_hop, journal_next_packet, machine_packet_items, piece, serves}
use Rattle.update_machine.proofs.Exports.{AreOf, HasNexts, all_first, all_given_append, event_steps_are, firsts_are}
use Rattle.packet_laws.proofs.PacketsSpared.{IsInStep, IsNoRow, lookup_in_step}
use Rattle.packet_laws.proofs.PacketsAtRest.{no_entries, no_rows}
use Rattle.packet_laws.specs.Exports.{ArePacketRowsEntered, EachPacketRowEnters, PacketLawStepRow, packet_law_event_row, gives_packet_law_step_row, packet_law_rows_played, packet_law_step_row, packet_law_step_rows, packet_law_step_rows_in}
use Rattle.policy_rules.proofs.PolicyRulesCallerLemmas.{append_not_nil}

-- ---- what the pieces of steps have of packet rows and their entries

-- none of the items is a row
abbrev NoRows : List Item → List Item → Type 0
NoRows before items = JournalItemsHaveCauses (λ js next. IsNoRow next) before items

-- ---- the rows

none_given : (before items : List Item) → NoRows before items → packet_law_step_rows_in items ≡ []
none_given before [] none = refl
none_given before (Item.Row row step ∷ items) none = absurd none.0
none_given before (first ∷ items) none = none_given (before ++ first ∷ []) items none.1

piece_rows : (setting : Setting) (before : List Item) (row : ℕ) (step : Step)
    → packet_law_step_rows_in (piece setting before row step) ≡ packet_law_step_row row step
unfolding piece
piece_rows setting before row step =
    cc (none_given _ _ (no_rows setting before row step), append-nil (packet_law_step_row row step))

-- the packet rows of steps
abbrev pub rows_of : List MachineStepOfRow → List PacketLawStepRow
rows_of [] = []
rows_of (next ∷ steps) = packet_law_step_row next.row next.step ++ rows_of steps

pub steps_rows : (setting : Setting) (before : List Item) (steps : List MachineStepOfRow)
    → packet_law_step_rows_in (journal_after_steps setting before steps) ≡ packet_law_step_rows_in before ++ rows_of steps
steps_rows setting before [] = sym (append-nil (packet_law_step_rows_in before))
steps_rows setting before (next ∷ steps) =
    steps_rows setting (before ++ piece setting before next.row next.step) steps
    ∙ ap (λ rows. rows ++ rows_of steps)
    (all_given_append gives_packet_law_step_row before (piece setting before next.row next.step)
    ∙ ap (λ rows. packet_law_step_rows_in before ++ rows) (piece_rows setting before next.row next.step))
    ∙ append_assoc (packet_law_step_rows_in before) (packet_law_step_row next.row next.step) (rows_of steps)

-- ---- the entries

none_enter : (before journal items : List Item)
    → JournalItemsHaveCauses (λ js next. IsInStep next) journal items → EachPacketRowEnters before items
none_enter before journal [] none = tt
none_enter before journal (Item.Row row step ∷ items) none = absurd none.0
none_enter before journal (Item.Entered packet switch header ∷ items) none = absurd none.0
none_enter before journal (Item.Closed packet switch ∷ items) none = absurd none.0
none_enter before journal (first ∷ items) none = none_enter (before ++ first ∷ []) _ items none.1

packet_enters : (setting : Setting) (before : List Item) (row s : ℕ) (header : Header)
    → EachPacketRowEnters before (piece setting before row (Packet s header))
unfolding piece machine_packet_items
packet_enters setting before row s header = by_serving (serves here s) refl where
  i : ℕ
  i = journal_next_packet before

  here : List Item
  here = before ++ Item.Row row (Packet s header) ∷ []

  by_serving : (b : Bool) → serves here s ≡ b → EachPacketRowEnters before (Item.Row row (Packet s header) ∷ elim b [
    | false ↦ Item.Closed i s ∷ []
    | true ↦ journal_items_then (Item.Entered i s header ∷ []) (machine_lookup_items setting i s) here
  ])
  by_serving false is = ((refl, refl, is), tt)
  by_serving true is = ((refl, refl, refl, is), none_enter _ _ _ (lookup_in_step setting i s _))

piece_enters : (setting : Setting) (before : List Item) (row : ℕ) (step : Step)
    → EachPacketRowEnters before (piece setting before row step)
unfolding piece
piece_enters setting before row (Packet s header) = packet_enters setting before row s header
piece_enters setting before row step = none_enter _ _ _ (no_entries setting before row step tt)

enter_on : (before items more : List Item) → EachPacketRowEnters before items
    → EachPacketRowEnters (before ++ items) more → EachPacketRowEnters before (items ++ more)
enter_on before [] more first then = subst (λ js. EachPacketRowEnters js more) (append-nil before) then
enter_on before (Item.Row row (Packet s header) ∷ []) more first then = absurd first
enter_on before (Item.Row row (Packet s header) ∷ entry ∷ items) more first then =
    let own : List Item = Item.Row row (Packet s header) ∷ entry ∷ [] in (
      first.0,
      enter_on (before ++ own) items more first.1 (rw (append_assoc before own items) then),
    )
enter_on before (Item.Entered packet switch header ∷ items) more first then = absurd first
enter_on before (Item.Closed packet switch ∷ items) more first then = absurd first
enter_on before (next ∷ items) more first then = enter_on (before ++ next ∷ []) items more first
    (rw (append_assoc before (next ∷ []) items) then)

pub steps_enter : (setting : Setting) (before : List Item) (steps : List MachineStepOfRow)
    → EachPacketRowEnters [] before → EachPacketRowEnters [] (journal_after_steps setting before steps)
steps_enter setting before [] known = known
steps_enter setting before (next ∷ steps) known =
    steps_enter setting (before ++ piece setting before next.row next.step) steps
    (enter_on [] before (piece setting before next.row next.step) known
    (piece_enters setting before next.row next.step))

-- ---- packet rows

pub rows_append : (one two : List MachineStepOfRow) → rows_of (one ++ two) ≡ rows_of one ++ rows_of two
rows_append [] two = refl
rows_append (next ∷ one) two =
    cc (rows_append one two, append_assoc (packet_law_step_row next.row next.step) (rows_of one) (rows_of two))

-- ---- deliveries and hops bring no packet in

abbrev BringsNone : Step → Type 0
BringsNone step = (row : ℕ) → packet_law_step_row row step ≡ []

nexts_bring_none : HasNexts BringsNone
nexts_bring_none = record { delivery = λ number row. refl; hop = λ packet row. refl }

none_rows : (steps : List MachineStepOfRow) → AreOf BringsNone steps → rows_of steps ≡ []
none_rows [] none = refl
none_rows (next ∷ steps) none = cc (none.0 next.row, none_rows steps none.1)

-- ---- one event

event_rows : (setting : Setting) (row : ℕ) (event : Event) (before : List Item)
    (steps : List MachineStepOfRow) → AreMachineStepsOf setting row event before steps
    → rows_of steps ≡ packet_law_event_row row event
event_rows setting row (One step) before steps all = cc (all, append-nil (packet_law_step_row row step))
event_rows setting row Flush before steps all = none_rows steps
    (event_steps_are BringsNone nexts_bring_none setting row Flush before steps tt all)
event_rows setting row Drain before steps all = none_rows steps
    (event_steps_are BringsNone nexts_bring_none setting row Drain before steps tt all)

-- what is before a step of the event
record Front (row : ℕ) (steps : List MachineStepOfRow) (last : MachineStepOfRow) : Type 0 where
  none : rows_of steps ≡ []
  of_row : last.row ≡ row

one_front : (row : ℕ) (one : MachineStepOfRow) (steps : List MachineStepOfRow) (last : MachineStepOfRow)
    → one.row ≡ row → steps ++ last ∷ [] ≡ one ∷ [] → Front row steps last
one_front row one [] last is e = record { none = refl; of_row = ap (λ xs. row_in xs) e ∙ is } where
  row_in : List MachineStepOfRow → ℕ
  row_in [] = 0
  row_in (first ∷ others) = first.row
one_front row one (first ∷ steps) last is e = absurd (append_not_nil steps last (ap tail_of e))
  where
    tail_of : List MachineStepOfRow → List MachineStepOfRow
    tail_of [] = []
    tail_of (x ∷ xs) = xs

some_last : (setting : Setting) (next : List Item → Option Step) (row : ℕ) (before : List Item)
    (steps : List MachineStepOfRow) (last : MachineStepOfRow)
    → AreFirstMachineEventSteps setting next row before (steps ++ last ∷ []) → last.row ≡ row
some_last setting next row before [] last some = some.0
some_last setting next row before (first ∷ steps) last some = some_last setting next row
    (before ++ piece setting before first.row first.step) steps last some.2

none_front : (row : ℕ) (steps : List MachineStepOfRow) (last : MachineStepOfRow)
    → AreOf BringsNone (steps ++ last ∷ []) → last.row ≡ row → Front row steps last
none_front row steps last none is = record {
  none = first_empty (rows_of steps) _ (sym (rows_append steps (last ∷ [])) ∙ none_rows _ none);
  of_row = is;
} where
  first_empty : (xs ys : List PacketLawStepRow) → xs ++ ys ≡ [] → xs ≡ []
  first_empty [] ys e = refl
  first_empty (x ∷ xs) ys e = absurd cc

event_front : (setting : Setting) (row : ℕ) (event : Event) (before : List Item)
    (steps : List MachineStepOfRow) (last : MachineStepOfRow)
    → AreFirstMachineStepsOf setting row event before (steps ++ last ∷ []) → Front row steps last
event_front setting row (One step) before steps last (inl e) = absurd (append_not_nil steps last e)
event_front setting row (One step) before steps last (inr e) =
    one_front row (record { row = row; step = step }) steps last refl e
event_front setting row Flush before steps last some = none_front row steps last
    (firsts_are BringsNone nexts_bring_none setting row Flush before (steps ++ last ∷ []) tt some)
    (some_last setting journal_next_delivery row before steps last some)
event_front setting row Drain before steps last some = none_front row steps last
    (firsts_are BringsNone nexts_bring_none setting row Drain before (steps ++ last ∷ []) tt some)
    (some_last setting journal_next_hop row before steps last some)

-- ---- all events

pub all_steps_rows : (setting : Setting) (row : ℕ) (events : List Event) (before : List Item)
    (steps : List MachineStepOfRow) → AreMachineSteps setting row events before steps
    → rows_of steps ≡ packet_law_step_rows row events
all_steps_rows setting row [] before steps all = ap rows_of all
all_steps_rows setting row (event ∷ events) before steps (mine, rest, split, all, others) =
    ap rows_of split.split ∙ rows_append mine rest
    ∙ ap (λ rows. rows ++ rows_of rest) (event_rows setting row event before mine all) ∙ ap
    (λ rows. packet_law_event_row row event ++ rows) (all_steps_rows setting (row + 1) events _ rest others)

-- ---- in front of a step

-- the last of the steps is the last of the others, where there are others
abbrev EndsOthers : List MachineStepOfRow → MachineStepOfRow → List MachineStepOfRow → List MachineStepOfRow → Type 0
EndsOthers steps last mine rest = (mine ≡ steps ++ last ∷ [])
    ⊎ ((others : List MachineStepOfRow) × (rest ≡ others ++ last ∷ []) × (steps ≡ mine ++ others))

where_ends : (steps : List MachineStepOfRow) (last : MachineStepOfRow) (mine rest : List MachineStepOfRow)
    → steps ++ last ∷ [] ≡ mine ++ rest → EndsOthers steps last mine rest
where_ends steps last [] rest e = inr (steps, sym e, refl)
where_ends [] last (one ∷ mine) rest e = inl (only mine (ap tail_of e)) where
  tail_of : List MachineStepOfRow → List MachineStepOfRow
  tail_of [] = []
  tail_of (x ∷ xs) = xs

  only : (more : List MachineStepOfRow) → [] ≡ more ++ rest → one ∷ more ≡ last ∷ []
  only [] none = let same : one ≡ last = cc in ap (λ x. x ∷ []) same
  only (x ∷ more) none = absurd cc
where_ends (first ∷ steps) last (one ∷ mine) rest e =
    let same : first ≡ one = cc in later same (where_ends steps last mine rest cc)
  where
    later : first ≡ one → EndsOthers steps last mine rest
        → EndsOthers (first ∷ steps) last (one ∷ mine) rest
    later same (inl is) = inl (ap (λ x. x ∷ mine) (sym same) ∙ ap (λ xs. first ∷ xs) is)
    later same (inr (others, is, before)) =
        inr (others, is, ap (λ x. x ∷ steps) same ∙ ap (λ xs. one ∷ xs) before)

-- the events in front of the row of the last step were played
pub record PlayedTo (row : ℕ) (events : List Event) (steps : List MachineStepOfRow) (last : MachineStepOfRow)
    : Type 0 where
  pub from : row ≤ last.row
  pub rows : rows_of steps ≡ packet_law_step_rows row (take (last.row - row) events)

of_front : (row : ℕ) (events : List Event) (steps : List MachineStepOfRow) (last : MachineStepOfRow)
    → Front row steps last → PlayedTo row events steps last
of_front row events steps last front =
    let none : last.row - row ≡ 0 = omega (arith, front.of_row) in record {
      from = omega (arith, front.of_row);
      rows = front.none ∙ ap (λ n. packet_law_step_rows row (take n events)) (sym none);
    }

-- the last step is of this event, or of one behind it
front_played : (setting : Setting) (row : ℕ) (event : Event) (events : List Event)
    (before : List Item) (steps : List MachineStepOfRow) (last : MachineStepOfRow) (mine rest : List MachineStepOfRow)
    → AreMachineStepsOf setting row event before mine
    → ((front : List MachineStepOfRow) → rest ≡ front ++ last ∷ [] → PlayedTo (row + 1) events front last)
    → EndsOthers steps last mine rest → PlayedTo row (event ∷ events) steps last
front_played setting row event events before steps last mine rest all others (inl is) = of_front row
    (event ∷ events) steps last (event_front setting row event before steps last (subst
    (AreFirstMachineStepsOf setting row event before) is (all_first setting row event before mine all)))
front_played setting row event events before steps last mine rest all others
    (inr (front, is, first)) =
    let more = others front is in
    let above : row + 1 ≤ last.row = more.from in
    let one : suc (last.row - (row + 1)) ≡ last.row - row = omega (arith, above) in record {
      from = omega (arith, above);
      rows = ap rows_of first ∙ rows_append mine front
          ∙ ap (λ rows. rows ++ rows_of front) (event_rows setting row event before mine all)
          ∙ ap (λ rows. packet_law_event_row row event ++ rows) more.rows
          ∙ ap (λ n. packet_law_step_rows row (take n (event ∷ events))) one;
    }

pub steps_in_front : (setting : Setting) (row : ℕ) (events : List Event) (before : List Item)
    (steps : List MachineStepOfRow) (last : MachineStepOfRow) → AreJournalFirstSteps setting row events before
    (steps ++ last ∷ []) → PlayedTo row events steps last
steps_in_front setting row [] before steps last first = absurd (append_not_nil steps last first)
steps_in_front setting row (event ∷ events) before steps last (inl first) = of_front row
    (event ∷ events) steps last (event_front setting row event before steps last first)
steps_in_front setting row (event ∷ events) before steps last
    (inr (mine, rest, split, all, others)) =
    let after : List Item = journal_after_steps setting before mine in
    front_played setting row event events before steps last mine rest all
    (λ front is. steps_in_front setting (row + 1) events after front last (rw is at others))
    (where_ends steps last mine rest split.split)

-- ---- the packets of plays

steps_entered : (setting : Setting) (steps : List MachineStepOfRow) (journal : List Item)
    (rows : List PacketLawStepRow) → journal ≡ journal_after_steps setting [] steps → rows_of steps ≡ rows
    → ArePacketRowsEntered rows journal
steps_entered setting steps journal rows written are =
    subst (ArePacketRowsEntered rows) (sym written) (record {
      in_order = steps_rows setting [] steps ∙ are;
      each = steps_enter setting [] steps tt;
    })

pub answer_entered : (setting : Setting) (events : List Event) (journal : List Item)
    → Answers setting events journal → ArePacketRowsEntered (packet_law_step_rows 1 events) journal
answer_entered setting events journal answers = search (rules, steps_entered, all_steps_rows)

pub play_entered : (setting : Setting) (events : List Event) (journal : List Item) (full : Option ℕ)
    → IsMachinePlay setting events journal full → ArePacketRowsEntered (packet_law_rows_played full events) journal
play_entered setting events journal None play = answer_entered setting events journal play.answers
play_entered setting events journal (Some row) play = steps_entered setting play.steps journal _
    play.written ((steps_in_front setting 1 events [] play.steps play.next play.allowed).rows
    ∙ ap (λ r. packet_law_step_rows 1 (take (r - 1) events)) play.of_row)
