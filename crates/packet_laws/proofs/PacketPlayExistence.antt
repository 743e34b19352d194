-- Each list of events has a play: all their steps, or those before the first that would begin full.
use Rattle.std.proofs.Common.{[], ◌++◌, ◌+◌, ◌<◌, ◌∙◌, ◌∷◌, ◌≡◌, ◌≤◌, ◌⊎◌, All, List, None, Option, Some, ap, append_assoc, arith, get_or, inl, inr, length, option_map, refl, subst, suc, sym, take, zero, ℕ, rules}
use Rattle.base.proofs.Exports.{cases_lt, take-append_seam}
use Rattle.update_machine.specs.Exports.{AreAllMachineEventSteps, AreJournalFirstSteps, AreFirstMachineStepsOf, AreFirstMachineEventSteps, AreMachineSteps, AreMachineStepsOf, Deliver, Drain, Event, Flush, HasMachinePlay, JournalItemsHaveCauses, MachineJournalsHaveRoom, IsMachineJournalFull, IsMachineSetting, Item, One, Setting, Step, MachineStepOfRow, journal_after_steps, machine_journal_full_at, journal_next_delivery, journal_next_hop, journal_next_message, next_waiting, piece}
use Rattle.control_laws.specs.Exports.{ControlAcksHold, AreControlNetworkEvents, ControlBootsArePast, HasControlItemCause, ControlLawHoldsAlways, ControlLawHoldsReached, IsControlAckedFirst, ControlMarksAreBounded, ControlMembersAcknowledged, ControlOpeningMessagesNameOneVersion, ControlServingHoldVersions, ControlServingIsKnown, ControlStampsSayTouched, ControlTablesArePlanned}
use Rattle.packet_laws.specs.Exports.{ChangesLeaveOtherPackets, PacketLawGoesOrStops, PacketLawsKeepVersionsWhole, PacketRulesAreRight, UntouchedPacketCacheRulesStay}
use Rattle.packet_laws.proofs.PacketFlushMessages.{next_is, numbers_rise}
use Rattle.update_machine.proofs.Exports.{IsEventOf, after_append, event_steps_are, rooms_append}
use Rattle.control_laws.proofs.Exports.{NamesOwn, has_nexts, own_event}
use Rattle.packet_laws.proofs.PacketDrainHops.{IsReady, drain_ends, ready_at_first, steps_ready}

-- ---- what always holds, holds of journals that are reached, within a step too; so all that keeps
-- versions whole holds of them.

-- what always holds, holds where a journal is reached
pub always_reached : (Holds : Setting → List Item → Type 0) → ControlLawHoldsAlways Holds → ControlLawHoldsReached Holds
always_reached Holds law = record {
  reached = λ setting journal at. rw at.written (law.behind.ends.stepped setting at.steps);
  within = λ setting journal rest at. subst (Holds setting)
      (ap (take (length journal)) (sym at.written) ∙ take-append_seam journal rest)
      (law.behind.items setting at.steps (length journal));
  answered = λ setting events journal own answers.
      law.behind.ends.answered setting events journal answers;
  begun = λ setting events journal own begins. law.behind.begun setting events journal begins;
}

-- a fact of the journals of settings, within a step too
abbrev pub OfReached : (Setting → List Item → Type 0) → Type 0
OfReached Holds = ControlLawHoldsReached (λ setting journal. IsMachineSetting setting → Holds setting journal)

-- the laws of boots, versions and marks, and of cache rules
pub record Laws : Type 0 where
  pub causes : ControlLawHoldsAlways (λ setting journal. JournalItemsHaveCauses (HasControlItemCause setting) [] journal)
  pub boots : ControlLawHoldsAlways (λ setting journal. ControlBootsArePast journal)
  pub serving : ControlLawHoldsAlways (λ setting journal. ControlServingIsKnown journal)
  pub heard : ControlLawHoldsAlways (λ setting journal. (s : ℕ) → ControlAcksHold journal s)
  pub acknowledged : ControlLawHoldsAlways (λ setting journal. JournalItemsHaveCauses (IsControlAckedFirst setting) [] journal)
  pub opened : ControlLawHoldsAlways (λ setting journal. ControlOpeningMessagesNameOneVersion journal)
  pub tables : ControlLawHoldsAlways (λ setting journal. ControlTablesArePlanned setting journal)
  pub members : ControlLawHoldsAlways (λ setting journal. ControlMembersAcknowledged setting journal)
  pub marks : ControlLawHoldsAlways (λ setting journal. ControlMarksAreBounded setting journal)
  pub holding : ControlLawHoldsAlways (λ setting journal. ControlServingHoldVersions setting journal)
  pub touched : ControlLawHoldsAlways (λ setting journal. ControlStampsSayTouched setting journal)
  pub rules : OfReached PacketRulesAreRight
  pub untouched : OfReached UntouchedPacketCacheRulesStay
  pub alike : OfReached ChangesLeaveOtherPackets

module _ (laws : Laws) (setting : Setting) (journal : List Item) where
  -- each item has its cause, and most of it follows
  whole : JournalItemsHaveCauses (HasControlItemCause setting) [] journal → PacketRulesAreRight setting journal
      → UntouchedPacketCacheRulesStay setting journal → ChangesLeaveOtherPackets setting journal
      → PacketLawsKeepVersionsWhole setting journal
  whole causes rules untouched alike = record {
    causes = causes;
    boots = laws.boots.caused setting journal causes;
    serving = laws.serving.caused setting journal causes;
    heard = laws.heard.caused setting journal causes;
    acknowledged = laws.acknowledged.caused setting journal causes;
    opened = laws.opened.caused setting journal causes;
    tables = laws.tables.caused setting journal causes;
    members = laws.members.caused setting journal causes;
    marks = laws.marks.caused setting journal causes;
    holding = laws.holding.caused setting journal causes;
    touched = laws.touched.caused setting journal causes;
    rules = rules;
    untouched = untouched;
    alike = alike;
  }

pub together : Laws → OfReached PacketLawsKeepVersionsWhole
together laws = let causes = always_reached _ laws.causes in record {
  reached = λ setting journal at is. whole laws setting journal
      (causes.reached setting journal at) (laws.rules.reached setting journal at is)
      (laws.untouched.reached setting journal at is) (laws.alike.reached setting journal at is);
  within = λ setting journal rest at is. whole laws setting journal
      (causes.within setting journal rest at) (laws.rules.within setting journal rest at is)
      (laws.untouched.within setting journal rest at is)
      (laws.alike.within setting journal rest at is);
  answered = λ setting events journal own answers is. whole laws setting journal
      (causes.answered setting events journal own answers)
      (laws.rules.answered setting events journal own answers is)
      (laws.untouched.answered setting events journal own answers is)
      (laws.alike.answered setting events journal own answers is);
  begun = λ setting events journal own begins is. whole laws setting journal
      (causes.begun setting events journal own begins)
      (laws.rules.begun setting events journal own begins is)
      (laws.untouched.begun setting events journal own begins is)
      (laws.alike.begun setting events journal own begins is);
}

-- ---- in a play a flush ends, or comes to a full journal

-- the next message that waits is among the last of those that a journal with room may number
abbrev IsAmong : ℕ → List Item → Type 0
IsAmong most journal = (n : ℕ) → next_waiting journal ≡ Some n → machine_journal_full_at < n + most

none_left : (setting : Setting) (row : ℕ) (before : List Item) → next_waiting before ≡ None
    → PacketLawGoesOrStops setting journal_next_delivery row before
none_left setting row before none = search rules

stops_here : (setting : Setting) (row : ℕ) (before : List Item) (n : ℕ) → next_waiting before
    ≡ Some n → IsMachineJournalFull before → PacketLawGoesOrStops setting journal_next_delivery row before
stops_here setting row before n is full = record {
  steps = [];
  room = tt;
  how = inr (record {
    more = record { row = row; step = Deliver n };
    allowed = (refl, ap (option_map Deliver) is, tt);
    full = full;
  });
}

one_more : (setting : Setting) (row : ℕ) (before : List Item) (n : ℕ)
    → next_waiting before ≡ Some n → journal_next_message before ≤ machine_journal_full_at
    → PacketLawGoesOrStops setting journal_next_delivery row (before ++ piece setting before row (Deliver n))
    → PacketLawGoesOrStops setting journal_next_delivery row before
one_more setting row before n is room rest =
    let first : MachineStepOfRow = record { row = row; step = Deliver n } in
    let goes = ap (option_map Deliver) is in record {
      steps = first ∷ rest.steps;
      room = (room, rest.room);
      how = elim rest.how [
        | inl all ↦ inl (refl, goes, all)
        | inr stop ↦ inr (record {
          more = stop.more;
          allowed = (refl, goes, stop.allowed);
          full = stop.full;
        })
      ];
    }

flush_within : (setting : Setting) (row most : ℕ) (before : List Item) → IsAmong most before
    → PacketLawGoesOrStops setting journal_next_delivery row before
flush_within setting row zero before among = by_next (next_waiting before) refl where
  by_next : (o : Option ℕ) → next_waiting before ≡ o → PacketLawGoesOrStops setting journal_next_delivery row before
  by_next None e = none_left setting row before e
  by_next (Some n) e = stops_here _ row _ n e (omega (arith, among n e, (next_is before n e).sent))
flush_within setting row (suc most) before among =
    by_next (next_waiting before) refl (flush_within setting row most)
  where
    by_next : (o : Option ℕ) → next_waiting before ≡ o → ((journal : List Item)
        → IsAmong most journal → PacketLawGoesOrStops setting journal_next_delivery row journal)
        → PacketLawGoesOrStops setting journal_next_delivery row before
    by_next None e rest = none_left setting row before e
    by_next (Some n) e rest = elim (cases_lt machine_journal_full_at (journal_next_message before)) [
      | inl full ↦ stops_here setting row before n e full
      | inr room ↦ one_more _ row _ n e room (rest (before ++ piece setting before row (Deliver n))
          (λ m later. omega (arith, among n e, numbers_rise setting before row n m e later)))
    ]

pub flush_goes : (setting : Setting) (journal : List Item) (row : ℕ)
    → PacketLawGoesOrStops setting journal_next_delivery row journal
flush_goes setting journal row =
    flush_within setting row (machine_journal_full_at + 1) journal (λ n is. omega arith)

-- ---- play existence

-- ---- an event

-- all steps of a loop, as far as there is room
goes : (setting : Setting) (next : List Item → Option Step) (row : ℕ) (before : List Item)
    (steps : List MachineStepOfRow) → AreAllMachineEventSteps setting next row before steps
    → PacketLawGoesOrStops setting next row before
goes setting next row before [] all = record { steps = []; room = tt; how = inl all }
goes setting next row before (first ∷ steps) all = by_room (cases_lt machine_journal_full_at (journal_next_message before))
    (goes setting next row (before ++ piece setting before first.row first.step) steps all.2)
  where
    by_room : (machine_journal_full_at < journal_next_message before) ⊎ (journal_next_message before ≤ machine_journal_full_at)
        → PacketLawGoesOrStops setting next row (before ++ piece setting before first.row first.step)
        → PacketLawGoesOrStops setting next row before
    by_room (inl full) rest = record {
      steps = [];
      room = tt;
      how = inr (record { more = first; allowed = (all.0, all.1, tt); full = full });
    }
    by_room (inr room) rest = record {
      steps = first ∷ rest.steps;
      room = (room, rest.room);
      how = elim rest.how [
        | inl others ↦ inl (all.0, all.1, others)
        | inr stop ↦ inr (record {
          more = stop.more;
          allowed = (all.0, all.1, stop.allowed);
          full = stop.full;
        })
      ];
    }

-- the event stops in front of a step that would begin full
record EventStops (setting : Setting) (row : ℕ) (event : Event) (before : List Item)
    (steps : List MachineStepOfRow) : Type 0 where
  more : MachineStepOfRow
  allowed : AreFirstMachineStepsOf setting row event before (steps ++ more ∷ [])
  full : IsMachineJournalFull (journal_after_steps setting before steps)

record EventGoes (setting : Setting) (row : ℕ) (event : Event) (before : List Item) : Type 0 where
  steps : List MachineStepOfRow
  room : MachineJournalsHaveRoom setting before steps
  how : AreMachineStepsOf setting row event before steps ⊎ EventStops setting row event before steps

-- as a flush or a drain goes whose steps such a loop's are
goes_as : (setting : Setting) (next : List Item → Option Step) (row : ℕ) (event : Event)
    (before : List Item) → ((steps : List MachineStepOfRow) → AreAllMachineEventSteps setting next row before steps
    → AreMachineStepsOf setting row event before steps)
    → ((steps : List MachineStepOfRow) → AreFirstMachineEventSteps setting next row before steps
    → AreFirstMachineStepsOf setting row event before steps)
    → PacketLawGoesOrStops setting next row before → EventGoes setting row event before
goes_as setting next row event before all_of some_of goes = search rules

event_goes : (setting : Setting) (row : ℕ) (event : Event) (before : List Item)
    → IsMachineSetting setting → IsReady setting before → EventGoes setting row event before
event_goes setting row (One step) before is ready = elim (cases_lt machine_journal_full_at (journal_next_message before)) [
  | inl full ↦ record {
    steps = [];
    room = tt;
    how = inr (record {
      more = record { row = row; step = step };
      allowed = inr refl;
      full = full;
    });
  }
  | inr room ↦ record {
    steps = record { row = row; step = step } ∷ [];
    room = (room, tt);
    how = inl refl;
  }
]
event_goes setting row Flush before is ready = goes_as setting journal_next_delivery row Flush before
    (λ steps all. all) (λ steps some. some) (flush_goes setting before row)
event_goes setting row Drain before is ready = let hops = drain_ends setting before row is ready in
    goes_as setting journal_next_hop row Drain before (λ steps all. all) (λ steps some. some)
    (goes setting journal_next_hop row before hops.0 hops.1)

-- ---- events

record EventsStop (setting : Setting) (row : ℕ) (events : List Event) (before : List Item)
    (steps : List MachineStepOfRow) : Type 0 where
  more : MachineStepOfRow
  allowed : AreJournalFirstSteps setting row events before (steps ++ more ∷ [])
  full : IsMachineJournalFull (journal_after_steps setting before steps)

record EventsGo (setting : Setting) (row : ℕ) (events : List Event) (before : List Item)
    : Type 0 where
  steps : List MachineStepOfRow
  room : MachineJournalsHaveRoom setting before steps
  how : AreMachineSteps setting row events before steps ⊎ EventsStop setting row events before steps

stop_first : (setting : Setting) (row : ℕ) (event : Event) (events : List Event)
    (before : List Item) (mine : List MachineStepOfRow) → MachineJournalsHaveRoom setting before mine
    → EventStops setting row event before mine → EventsGo setting row (event ∷ events) before
stop_first setting row event events before mine room stop = record {
  steps = mine;
  room = room;
  how = inr (record { more = stop.more; allowed = inl stop.allowed; full = stop.full });
}

go_on : (setting : Setting) (row : ℕ) (event : Event) (events : List Event) (before : List Item)
    (mine : List MachineStepOfRow) → MachineJournalsHaveRoom setting before mine
    → AreMachineStepsOf setting row event before mine
    → EventsGo setting (row + 1) events (journal_after_steps setting before mine)
    → EventsGo setting row (event ∷ events) before
go_on setting row event events before mine room all rest = record {
  steps = mine ++ rest.steps;
  room = rooms_append setting before mine rest.steps room rest.room;
  how = elim rest.how [
    | inl others ↦ inl (mine, rest.steps, record { split = refl }, all, others)
    | inr stop ↦ inr (record {
      more = stop.more;
      allowed = inr (
        mine,
        rest.steps ++ stop.more ∷ [],
        record { split = append_assoc mine rest.steps (stop.more ∷ []) },
        all,
        stop.allowed,
      );
      full = subst IsMachineJournalFull (sym (after_append setting before mine rest.steps)) stop.full;
    })
  ];
}

events_go : (setting : Setting) (row : ℕ) (events : List Event) (before : List Item)
    → IsMachineSetting setting → All (IsEventOf (NamesOwn setting)) events → IsReady setting before
    → EventsGo setting row events before
events_go setting row [] before is own ready = record { steps = []; room = tt; how = inl refl }
events_go setting row (event ∷ events) before is own ready =
    by_first (event_goes setting row event before is ready) (λ journal then_ready. events_go setting
    (row + 1) events journal is (λ k d within. own (suc k) d (omega (arith, within))) then_ready)
  where
    by_first : EventGoes setting row event before → ((journal : List Item) → IsReady setting journal
        → EventsGo setting (row + 1) events journal) → EventsGo setting row (event ∷ events) before
    by_first first rest = elim first.how [
      | inl all ↦ go_on setting row event events before first.steps first.room all
          (rest (journal_after_steps setting before first.steps) (steps_ready _ before _ is (event_steps_are
          _ (has_nexts setting) setting row event before _ (own 0 event (omega arith)) all) ready))
      | inr stop ↦ stop_first setting row event events before first.steps first.room stop
    ]

-- ---- plays

pub has_play : (setting : Setting) (events : List Event) → IsMachineSetting setting
    → AreControlNetworkEvents setting events → HasMachinePlay setting events
has_play setting events is own =
    let by : EventsGo setting 1 events [] → HasMachinePlay setting events = λ all. elim all.how [
      | inl answers ↦ (
        journal_after_steps setting [] all.steps,
        None,
        record {
          answers = record { steps = all.steps; allowed = answers; written = refl };
          room = all.room;
        },
      )
      | inr stop ↦ (
        journal_after_steps setting [] all.steps,
        Some stop.more.row,
        record {
          steps = all.steps;
          next = stop.more;
          allowed = stop.allowed;
          written = refl;
          room = all.room;
          full = stop.full;
          of_row = refl;
        },
      )
    ] in
    by (events_go setting 1 events [] is
    (λ k d within. own_event setting (get_or events k d) (own k d within)) (ready_at_first setting))
