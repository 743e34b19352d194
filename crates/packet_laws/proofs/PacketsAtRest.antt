-- Between steps all packets rest: on their way, at switches that serve. So all items of packets
-- have their causes.
use Rattle.std.proofs.Common.{[], ◌++◌, ◌+◌, ◌<◌, ◌==◌, ◌∙◌, ◌∷◌, ◌≡◌, ◌≢◌, ◌⊎◌, All, IsTrue, List, None, Option, Some, ap, arith, drop, eq-eqb, false, get_or, inl, inr, length, ne_eqb, refl, subst, suc, sym, take, take-append-drop, unwrap_or, ℕ, rules}
use Rattle.update_machine.specs.Exports.{AreMachineSteps, JournalBeginsAnswer, Crash, Event, Found, JournalItemsHaveCauses, Header, Hop, IsMachinePlay, IsJournalReached, IsMachineSetting, Item, Lose, Packet, Setting, Step, MachineStepOfRow, journal_after_steps, journal_authority_rule, journal_packet_header_at, journal_packet_header, machine_lookup_at, journal_next_packet, machine_packet_items, piece, serves, journal_stamp_of, machine_step_items, travels_in_journal}
use Rattle.update_machine.proofs.Exports.{AreOf, HasNexts, IsEventOf, answers_so_far, begins_itself, event_steps_are, first_steps_are, have_append, last_given_append, packet_keeps, stop_begins}
use Rattle.control_laws.specs.Exports.{AreControlNetworkEvents, HasControlItemCause, ControlLawHoldsReached}
use Rattle.control_laws.proofs.Exports.{HasLinkCause, IsCarried, IsTraffic, NamesOwn, OfSettings, Traffic, behind_piece, carried_on, caused_known, fact_on, has_nexts, have_both, have_weaker, own_event, packet_has, pieces_caused, pieces_have, reached_by, reached_carries, serving_known, serving_more, setting_carries, so_far_carries, step_traffic}
use Rattle.packet_laws.specs.Exports.{ArePacketsResting, ArePacketsServed, PacketLawHoldsBetween, IsPacketMoving, HasPacketItemCause, packet_stage_of, packet_steps_played}
use Rattle.base.proofs.Exports.{⊤, cases_eq}
use Rattle.five_tuple.specs.Exports.{IsHeader}
use Rattle.packet_laws.proofs.PacketsServed.{AreNumbered, HaveLegs, IsCausedUp, NotDown, crash_served, legs_kept, numbered_kept, served_kept}
use Rattle.packet_laws.proofs.PacketOtherBlocks.{AreAside, IsAside, hop_done, packet_done}
use Rattle.packet_laws.proofs.PacketHeaderLookups.{FindsRule, authority_found, rule_there, stamped}
use Rattle.packet_laws.proofs.PacketsSpared.{IsInStep, IsNoRow, Spares, SparesAll, aside_spares, crash_spares, hop_spares, in_step, lose_spares, packet_spares, piece_ways, row_rests, spare, spared, step_aside}

-- ---- what is carried from step to step is true after each step of a play

are_front : (Is : Step → Type 0) (xs ys : List MachineStepOfRow) → AreOf Is (xs ++ ys) → AreOf Is xs
are_front Is [] ys are = tt
are_front Is (x ∷ xs) ys are = (are.0, are_front Is xs ys are.1)

all_steps_are : (Is : Step → Type 0) → HasNexts Is → (setting : Setting) (row : ℕ)
    (events : List Event) (before : List Item) (steps : List MachineStepOfRow)
    → All (IsEventOf Is) events → AreMachineSteps setting row events before steps → AreOf Is steps
all_steps_are Is has setting row [] before steps is are = subst (AreOf Is) (sym are) tt
all_steps_are Is has setting row (event ∷ events) before steps is are = subst (AreOf Is)
    (sym are.2.split) (onto are.0 (event_steps_are Is has setting row event before are.0
    (is 0 event (omega arith)) are.3) (all_steps_are Is has setting (row + 1) events
    (journal_after_steps setting before are.0) are.1 (λ k d within. is (suc k) d (omega arith)) are.4))
  where
    onto : (mine : List MachineStepOfRow) → AreOf Is mine → AreOf Is are.1 → AreOf Is (mine ++ are.1)
    onto [] none rest = rest
    onto (x ∷ mine) own rest = (own.0, onto mine own.1 rest)

own_events : (setting : Setting) (events : List Event) → AreControlNetworkEvents setting events
    → All (IsEventOf (NamesOwn setting)) events
own_events setting events own = λ k d within. own_event setting (get_or events k d) (own k d within)

play_steps_are : (setting : Setting) (events : List Event) (journal : List Item)
    (full : Option ℕ) → AreControlNetworkEvents setting events → (play : IsMachinePlay setting events journal full)
    → AreOf (NamesOwn setting) (packet_steps_played setting events journal full play)
play_steps_are setting events journal None own play =
    all_steps_are (NamesOwn setting) (has_nexts setting) setting 1 events [] play.answers.steps
    (own_events setting events own) play.answers.allowed
play_steps_are setting events journal (Some row) own play = are_front (NamesOwn setting) play.steps
    (play.next ∷ []) (first_steps_are (NamesOwn setting) (has_nexts setting) setting 1 events []
    (play.steps ++ play.next ∷ []) (own_events setting events own) play.allowed)

pub played_carries : (setting : Setting) (Fact : List Item → Type 0) → IsCarried setting Fact
    → (events : List Event) (journal : List Item) (full : Option ℕ) → AreControlNetworkEvents setting events
    → (play : IsMachinePlay setting events journal full) (n : ℕ)
    → Fact (journal_after_steps setting [] (take n (packet_steps_played setting events journal full play)))
played_carries setting Fact carried events journal full own play n =
    let steps = packet_steps_played setting events journal full play in
    carried_on setting Fact carried [] (take n steps)
    (are_front (NamesOwn setting) (take n steps) (drop n steps) (subst (AreOf (NamesOwn setting))
    (sym (take-append-drop n steps)) (play_steps_are setting events journal full own play)))
    carried.first

-- a play begins an answer
pub play_begins : (setting : Setting) (events : List Event) (journal : List Item)
    (full : Option ℕ) → IsMachinePlay setting events journal full → JournalBeginsAnswer setting events journal
play_begins setting events journal None play =
    begins_itself setting events journal (answers_so_far setting events journal play.answers)
play_begins setting events journal (Some row) play = stop_begins setting events journal row play

-- ---- resting packets

-- ---- causes with their past

-- a cause, where all items before have theirs too
pub record Past (cause : List Item → Item → Type 0) (before : List Item) (next : Item)
    : Type 0 where
  pub caused : cause before next
  pub past : JournalItemsHaveCauses cause [] before

pub with_past : (cause : List Item → Item → Type 0) (before items : List Item)
    → JournalItemsHaveCauses cause [] before → JournalItemsHaveCauses cause before items
    → JournalItemsHaveCauses (Past cause) before items
with_past cause before [] past have = tt
with_past cause before (next ∷ items) past have = (
  record { caused = have.0; past = past },
  with_past cause _ items (have_append cause [] before (next ∷ []) past (have.0, tt)) have.1,
)

-- ---- what is known of a journal

-- the step of a row is one of the network
abbrev pub IsAsked : Setting → List Item → Item → Type 0
IsAsked setting before (Item.Row row step) = NamesOwn setting step
IsAsked setting before _ = ⊤

-- the causes of an item of a network that is asked for steps of its own
pub record IsWayItem (setting : Setting) (before : List Item) (next : Item) : Type 0 where
  pub switches : HasControlItemCause setting before next
  pub way : HasPacketItemCause setting before next
  pub links : HasLinkCause setting before next
  pub asked : IsAsked setting before next

pub record IsSettled (setting : Setting) (journal : List Item) : Type 0 where
  pub causes : JournalItemsHaveCauses (IsWayItem setting) [] journal
  pub rests : ArePacketsResting journal

pub switches_of_all : (setting : Setting) (before items : List Item)
    → JournalItemsHaveCauses (IsWayItem setting) before items → JournalItemsHaveCauses (HasControlItemCause setting) before items
switches_of_all setting before items have = search (rules, have_weaker)

pub ways_of_all : (setting : Setting) (before items : List Item)
    → JournalItemsHaveCauses (IsWayItem setting) before items → JournalItemsHaveCauses (HasPacketItemCause setting) before items
ways_of_all setting before items have = search (rules, have_weaker)

pub numbered : (setting : Setting) (journal : List Item) → JournalItemsHaveCauses (HasPacketItemCause setting) [] journal
    → AreNumbered journal
unfolding travels_in_journal
numbered setting journal have = fact_on _ _ (numbered_kept _) [] _ have (λ i travelling. absurd cc)

have_legs : (setting : Setting) (journal : List Item) → JournalItemsHaveCauses (IsWayItem setting) [] journal
    → HaveLegs journal
unfolding packet_stage_of
have_legs setting journal have = fact_on (HasPacketItemCause setting) HaveLegs (legs_kept setting) []
    journal (ways_of_all setting [] journal have) (λ i moving. absurd cc)

-- ---- items behind which packets are served

-- items of which none is of a switch that goes down
served_on : (setting : Setting) (before items : List Item)
    → JournalItemsHaveCauses (HasControlItemCause setting) [] before → JournalItemsHaveCauses (HasControlItemCause setting) before items
    → JournalItemsHaveCauses (HasPacketItemCause setting) before items
    → JournalItemsHaveCauses (λ js next. NotDown next) before items → ArePacketsServed before
    → ArePacketsServed (before ++ items)
served_on setting before items past switches ways up served = fact_on (IsCausedUp setting) ArePacketsServed
    (served_kept setting) before items (have_weaker _ (IsCausedUp setting) (λ js next both. record {
      caused = record {
        switches = both.first.caused;
        way = both.second.first;
        known = serving_known js (caused_known setting js both.first.past);
      };
      not_down = both.second.second;
    }) before items
    (have_both _ _ _ _ (with_past _ _ items past switches) (have_both _ _ _ items ways up))) served

traffic_up : (setting : Setting) (before : List Item) (next : Item)
    → IsTraffic setting before next → NotDown next
traffic_up setting before (Item.Down s) traffic = absurd traffic
traffic_up setting before _ traffic = tt

aside_up : (before : List Item) (next : Item) → IsAside before next → NotDown next
aside_up before (Item.Down s) aside = absurd aside
aside_up before _ aside = tt

-- ---- the packet of a step

-- the number of the packet that the step brings in or on
abbrev pub packet_of : List Item → Step → Option ℕ
packet_of before (Packet s header) = Some (journal_next_packet before)
packet_of before (Hop i) = Some i
packet_of before _ = None

-- the step brings no packet in
abbrev pub BringsNoPacket : Step → Type 0
BringsNoPacket (Packet s header) = ⊥
BringsNoPacket _ = ⊤

-- the step is about no packet but this one
abbrev IsApart : ℕ → List Item → Step → Type 0
IsApart j before step = (i : ℕ) → packet_of before step ≡ Some i → (i == j) ≡ false

-- it spares all others
others_spare : (setting : Setting) (j : ℕ) (before : List Item) (row : ℕ) (step : Step)
    → BringsNoPacket step → IsApart j before step → let here = before ++ Item.Row row step ∷ [] in
    JournalItemsHaveCauses (SparesAll j) here (machine_step_items setting before step here)
others_spare setting j before row (Packet s header) none apart = absurd none
others_spare setting j before row (Hop i) none apart = hop_spares setting j i _ (apart i refl)
others_spare setting j before row (Lose i) none apart = lose_spares j i _
others_spare setting j before row (Crash s) none apart = crash_spares setting j before s _
others_spare setting j before row step none apart =
    aside_spares j _ _ (step_aside setting before row step tt)

step_spares : (setting : Setting) (j : ℕ) (before : List Item) (row : ℕ) (step : Step)
    → IsApart j before step → let here = before ++ Item.Row row step ∷ [] in
    JournalItemsHaveCauses (Spares j) here (machine_step_items setting before step here)
step_spares setting j before row (Packet s header) apart =
    packet_spares setting j (journal_next_packet before) s header _ (apart (journal_next_packet before) refl)
step_spares setting j before row step apart =
    spare j _ _ (others_spare setting j before row step tt apart)

-- a number that isn't the packet's
another : (before : List Item) (step : Step)
    → IsApart (unwrap_or (packet_of before step) 0 + 1) before step
another before step i is = search (rules, ne_eqb)

-- behind its row a step begins no other
pub no_rows : (setting : Setting) (before : List Item) (row : ℕ) (step : Step)
    → let here = before ++ Item.Row row step ∷ [] in
    JournalItemsHaveCauses (λ js next. IsNoRow next) here (machine_step_items setting before step here)
no_rows setting before row step = have_weaker _ (λ js next. IsNoRow next)
    (λ js next spares. spares.1) _ _ (step_spares setting _ before row step (another before step))

-- and only by that of a packet row one enters or is closed
pub no_entries : (setting : Setting) (before : List Item) (row : ℕ) (step : Step)
    → BringsNoPacket step → let here = before ++ Item.Row row step ∷ [] in
    JournalItemsHaveCauses (λ js next. IsInStep next) here (machine_step_items setting before step here)
no_entries setting before row step none = in_step _ _ _ (others_spare _ _ _ _ _ none (another _ _))

no_row_asked : (setting : Setting) (before : List Item) (next : Item) → IsNoRow next
    → IsAsked setting before next
no_row_asked setting before next none = search rules

-- ---- the causes of a piece

pub piece_causes : (setting : Setting) (before : List Item) (row : ℕ) (step : Step)
    → NamesOwn setting step → ArePacketsResting before
    → JournalItemsHaveCauses (IsWayItem setting) before (piece setting before row step)
unfolding piece
piece_causes setting before row step own rests =
    let switches = pieces_have setting before row step in
    let ways = piece_ways setting before row step rests in
    let links = pieces_caused setting before row step in (
      record { switches = switches.0; way = ways.0; links = links.0; asked = own },
      have_weaker _ (IsWayItem setting) (λ js next both. record {
        switches = both.first;
        way = both.second.first;
        links = both.second.second.first;
        asked = both.second.second.second;
      }) _ _
          (have_both _ _ _ _ switches.1 (have_both _ _ _ _ ways.1 (have_both _ _ _ _ links.1
          (have_weaker _ _ (no_row_asked setting) _ _ (no_rows setting before row step))))),
    )

-- ---- packets that enter

header_now : (journal : List Item) (i s : ℕ) (header : Header)
    → journal_packet_header (journal ++ Item.Entered i s header ∷ []) i ≡ Some header
unfolding journal_packet_header
header_now journal i s header = rw (last_given_append, eq-eqb) refl

-- the rules of its lookup are there
rules_there : (setting : Setting) (journal : List Item) (i s : ℕ) (header : Header)
    → IsMachineSetting setting → JournalItemsHaveCauses (HasControlItemCause setting) [] journal
    → s < length setting.net.switches → IsHeader header → IsTrue (serves journal s)
    → (partition place : ℕ) → let entered = journal ++ Item.Entered i s header ∷ [] in
    machine_lookup_at setting entered s (journal_packet_header_at entered i) ≡ Found.Authority partition place
    → journal_authority_rule setting entered (journal_stamp_of entered s) partition place ≡ None → ⊥
rules_there setting journal i s header is have there sound serving partition place answer none =
    let next : Item = Item.Entered i s header in
    let entered : List Item = journal ++ next ∷ [] in
    let finds : FindsRule setting entered s header partition place = authority_found setting entered
    s header partition place (stamped setting entered s is (have_append (HasControlItemCause setting) []
    journal (next ∷ []) have (tt, tt)) there (rw (serving_more journal next s) serving)) sound
    (ap (machine_lookup_at setting entered s) (sym (rw (header_now journal i s header) refl)) ∙ answer) in
    let clash : Some _ ≡ None = sym (rule_there setting entered header finds.part.hosted
    (journal_stamp_of entered s) partition finds.part.finds finds.part.number)
    ∙ ap (journal_authority_rule setting entered (journal_stamp_of entered s) partition) finds.found_at ∙ none in
    cc

-- ---- behind a step

step_served : (setting : Setting) (before : List Item) (row : ℕ) (step : Step)
    → IsSettled setting before → let here = before ++ Item.Row row step ∷ [] in
    ArePacketsServed (here ++ machine_step_items setting before step here)
unfolding piece
step_served setting before row step settled = by_kind step where
  past : (step : Step) → JournalItemsHaveCauses (HasControlItemCause setting) [] (before ++ Item.Row row step ∷ [])
  past step = have_append _ [] before _ (switches_of_all setting [] before settled.causes) (tt, tt)

  up_served : (step : Step) → let here = before ++ Item.Row row step ∷ [] in
      JournalItemsHaveCauses (λ js next. NotDown next) here (machine_step_items setting before step here)
      → ArePacketsServed (here ++ machine_step_items setting before step here)
  up_served step up = served_on setting _ _ (past step) (pieces_have setting before row step).1
      (piece_ways setting _ row step settled.rests).1 up (row_rests _ row step settled.rests).served

  aside_served : (step : Step) → let here = before ++ Item.Row row step ∷ [] in
      AreAside here (machine_step_items setting before step here)
      → ArePacketsServed (here ++ machine_step_items setting before step here)
  aside_served step aside = up_served step (have_weaker IsAside _ aside_up _ _ aside)

  traffic_served : (step : Step) → let here = before ++ Item.Row row step ∷ [] in
      Traffic setting here (machine_step_items setting before step here)
      → ArePacketsServed (here ++ machine_step_items setting before step here)
  traffic_served step traffic = up_served step (have_weaker _ _ (traffic_up setting) _ _ traffic)

  by_kind : (step : Step) → let here = before ++ Item.Row row step ∷ [] in
      ArePacketsServed (here ++ machine_step_items setting before step here)
  by_kind (Packet s header) = up_served _ (packet_has _ _ (traffic_up setting) _ s header _ tt)
  by_kind (Hop i) = traffic_served (Hop i) (step_traffic setting before (Hop i) _ tt)
  by_kind (Lose i) = traffic_served (Lose i) (step_traffic setting before (Lose i) _ tt)
  by_kind (Crash s) = crash_served _ _ s _ (numbered _ _ (ways_of_all _ [] before settled.causes))
      (row_rests before row (Crash s) settled.rests).served
      (λ i. let keeps = packet_keeps i before (Item.Row row (Crash s) ∷ []) (refl, tt) in
      (keeps.travels, keeps.stands))
  by_kind step = aside_served step (step_aside setting before row step tt)

step_moving : (setting : Setting) (before : List Item) (row : ℕ) (step : Step)
    → IsMachineSetting setting → NamesOwn setting step → IsSettled setting before → (j : ℕ)
    → let here = before ++ Item.Row row step ∷ [] in
    IsPacketMoving (here ++ machine_step_items setting before step here) j
step_moving setting before row step is own settled j = by_kind step own where
  resting : (step : Step) → IsPacketMoving (before ++ Item.Row row step ∷ []) j
  resting step = (row_rests before row step settled.rests).moving j

  other : (step : Step) → ((i : ℕ) → packet_of before step ≡ Some i → (i == j) ≡ false)
      → let here = before ++ Item.Row row step ∷ [] in
      IsPacketMoving (here ++ machine_step_items setting before step here) j
  other step apart = spared j _ _ (step_spares setting j before row step apart) (resting step)

  by_packet : (s : ℕ) (header : Header) → s < length setting.net.switches → IsHeader header
      → (journal_next_packet before ≡ j) ⊎ (journal_next_packet before ≢ j)
      → let here = before ++ Item.Row row (Packet s header) ∷ [] in
      IsPacketMoving (here ++ machine_packet_items setting (journal_next_packet before) s header here) j
  by_packet s header there sound (inl same) =
      let here : List Item = before ++ Item.Row row (Packet s header) ∷ [] in
      subst (λ k. IsPacketMoving (here ++ machine_packet_items setting k s header here) j) (sym same)
      (packet_done setting j s header here (rules_there setting here j s header is
      (have_append _ [] before (Item.Row row (Packet s header) ∷ []) (switches_of_all setting []
      before settled.causes) (tt, tt)) there sound) (resting (Packet s header)))
  by_packet s header there sound (inr apart) = other _ (λ i e. ne_eqb i j (λ same. apart (cc)))

  by_hop : (i : ℕ) → (i ≡ j) ⊎ (i ≢ j) → let here = before ++ Item.Row row (Hop i) ∷ [] in
      IsPacketMoving (here ++ machine_step_items setting before (Hop i) here) j
  by_hop i (inl same) =
      let here : List Item = before ++ Item.Row row (Hop i) ∷ [] in
      let keeps = packet_keeps j before (Item.Row row (Hop i) ∷ []) (refl, tt) in
      subst (λ k. IsPacketMoving (here ++ machine_step_items setting before (Hop k) here) j) (sym same)
      (hop_done setting j here (λ travelling. let leg = have_legs setting before settled.causes j
      (settled.rests.moving j (sym keeps.travels ∙ travelling)) in
      (leg.0, keeps.leg ∙ leg.1)) (resting (Hop i)))
  by_hop i (inr apart) = other (Hop i) (λ k e. ne_eqb k j (λ same. apart (cc)))

  by_kind : (step : Step) → NamesOwn setting step → let here = before ++ Item.Row row step ∷ [] in
      IsPacketMoving (here ++ machine_step_items setting before step here) j
  by_kind (Packet s header) own = by_packet s header own.0 own.1 (cases_eq (journal_next_packet before) j)
  by_kind (Hop i) own = by_hop i (cases_eq i j)
  by_kind step own = other step (λ k e. absurd cc)

pub piece_settled : (setting : Setting) (before : List Item) (row : ℕ) (step : Step)
    → IsMachineSetting setting → NamesOwn setting step → IsSettled setting before
    → IsSettled setting (before ++ piece setting before row step)
piece_settled setting before row step is own settled = record {
  causes = have_append _ [] _ _ settled.causes (piece_causes _ before row step own settled.rests);
  rests = behind_piece setting before row step ArePacketsResting (record {
    served = step_served setting before row step settled;
    moving = step_moving setting before row step is own settled;
  });
}

-- ---- the causes of a reached journal's items, and what holds between its steps

pub settled_at_first : (setting : Setting) → IsSettled setting []
unfolding travels_in_journal
settled_at_first setting = search rules

settled_carried : (setting : Setting) → IsCarried setting (OfSettings IsSettled setting)
settled_carried = setting_carries IsSettled settled_at_first piece_settled

pub reached_settled : (setting : Setting) (journal : List Item) → IsMachineSetting setting
    → IsJournalReached setting journal → IsSettled setting journal
reached_settled setting journal is reached = reached_carries _ _ (settled_carried _) _ reached is

-- ---- laws

-- what holds where packets rest and all items have their causes holds between steps
pub between : (Holds : Setting → List Item → Type 0) → ((setting : Setting) (journal : List Item)
    → IsMachineSetting setting → IsSettled setting journal → Holds setting journal)
    → PacketLawHoldsBetween (λ setting journal. IsMachineSetting setting → Holds setting journal)
between Holds settled = record {
  reached = λ setting journal reached is.
      settled setting journal is (reached_settled setting journal is reached);
  answered = λ setting events journal own answers is. settled setting journal is (so_far_carries _ _
      (settled_carried setting) events _ own (answers_so_far setting events journal answers) is);
  so_far = λ setting events journal own answers is. settled setting journal is
      (so_far_carries setting _ (settled_carried setting) events journal own answers is);
  played = λ setting events journal full own play n is. settled setting
      (journal_after_steps setting [] (take n (packet_steps_played setting events journal full play))) is
      (played_carries setting _ (settled_carried setting) events journal full own play n is);
}

-- what follows from the causes of all items is true of each reached journal, within a step too
pub reached : (Holds : Setting → List Item → Type 0) → ((setting : Setting) (journal : List Item)
    → IsMachineSetting setting → JournalItemsHaveCauses (IsWayItem setting) [] journal → Holds setting journal)
    → ControlLawHoldsReached (λ setting journal. IsMachineSetting setting → Holds setting journal)
reached Holds = reached_by _ Holds _ settled_carried (λ setting journal settled. settled.causes)
