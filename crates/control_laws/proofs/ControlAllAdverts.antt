-- What each own advert that is told has, and each first one, and items keep, all adverts have.
use Rattle.std.proofs.Common.{[], ◌&&◌, ◌++◌, ◌<◌, ◌==◌, ◌∙◌, ◌∷◌, ◌≡◌, ◌≢◌, All, Bool, IsFalse, IsTrue, List, None, Option, Some, ap, append_assoc, arith, false, filter_map, if◌then◌else◌, inl, inr, length, map, nat_lt, not, option_to_list, refl, slice_index, subst, sym, true, ℕ}
use Rattle.base.proofs.Exports.{⊤, All-append, All-cons, All-nil, All-same, All-weaker, AllByRecursion, cases_eq, each_append, filter_map-append, get_or-map-range_with_len, get_or-replicate, nat_tests, option_map_or, recursion_from_All}
use Rattle.update_machine.specs.Exports.{Advert, Advertise, Body, Confirm, Crash, Deliver, JournalItemsHaveCauses, Item, LinkDown, LinkUp, Message, Packet, Resend, Restart, Setting, Step, Update, journal_advert_known, machine_advert_to, journal_adverts_begun, journal_adverts_heard, journal_body_to_switch, machine_item_changes_steps, machine_item_concerns_links, journal_crash_items, machine_deliver_items, heard, is_machine_advert_body, is_first_boot_in_journal, journal_items_then, journal_link_changes, machine_link_items, journal_message_of, near, journal_next_packet, machine_advert_of_other, own_advert, journal_own_advert_sent, piece, machine_restart_items, machine_sent_items_from, journal_stamp_of, machine_step_items, journal_steps_in, journal_switch_items, machine_switches_of, machine_message_to_switch}
use Rattle.update_machine.proofs.Exports.{PiecesHave, folded_append, have_append, have_first, have_put, known_link_laws, start_laws}
use Rattle.control_laws.proofs.ControlCommands.{changes_controller_heard, confirm_control, controller_control, last_heard, passed_told, resend_caused, sends_told, update_has}
use Rattle.control_laws.proofs.ControlStampingSwitches.{ArePlain, IsPlain, behind_items, control_is_plain, control_plain, losts_have, packet_plain, step_plain}
use Rattle.control_laws.proofs.ControlPieceCauses.{deliver_has, pieces_have, said_parts, said_row}
use Rattle.control_laws.proofs.ControlFactsGrown.{AreKept, Both, by_number, fact_on, have_both, have_weaker, heard_more, piece_has}
use Rattle.control_laws.proofs.ControlSaidToController.{ChangedNoLinks, HasLinkCause, HaveLinkCauses, IsTold, IsToldIn, switch_cases}
use Rattle.control_laws.specs.Exports.{AllControlAdverts, HasControlItemCause, ControlLawHoldsBehindItems}
use Rattle.failover.specs.Exports.{IsNewestAdvert, first_advert, first_adverts, held_advert, no_adverts}
use Rattle.base.specs.Exports.{has}
use Rattle.failover.proofs.FailoverHeldAdverts.{held-first}
use Rattle.net_file.specs.Exports.{links_of}
use Rattle.steps.specs.Exports.{StepSwitchExists}

-- ---- each piece has its causes: of each advert that is sent, and of each change of links

-- ---- plain items have their causes

plain_body : (setting : Setting) (before : List Item) (body : Body) → IsFalse (is_machine_advert_body body)
    → IsToldIn setting before body
plain_body setting before (Advertise advert) plain = absurd cc
plain_body setting before _ plain = tt

plain_caused : (setting : Setting) (before : List Item) (next : Item) → IsPlain before next
    → HasLinkCause setting before next
plain_caused setting before (Item.Sent number message) plain =
    plain_body setting before message.body plain
plain_caused setting before (Item.Down s) plain = absurd plain
plain_caused setting before (Item.Booted s boot) plain = absurd plain
plain_caused setting before (Item.Opened s version) plain = absurd plain
plain_caused setting before (Item.LinkIs one two up) plain = absurd plain
plain_caused setting before _ plain = tt

are_caused : (setting : Setting) (before items : List Item) → ArePlain before items
    → HaveLinkCauses setting before items
are_caused setting before items plain =
    have_weaker IsPlain (HasLinkCause setting) (plain_caused setting) before items plain

-- ---- links haven't changed yet

pub row_first : (before : List Item) (row : ℕ) (step : Step)
    → ChangedNoLinks (before ++ Item.Row row step ∷ [])
unfolding journal_steps_in
row_first before row step = record {
  newest = record { before = before; items = Item.Row row step ∷ [] };
  earlier = journal_steps_in before;
  steps = folded_append machine_item_changes_steps [] before (Item.Row row step ∷ []);
  ends = refl;
  none = (refl, tt);
}

pub delivered_first : (before : List Item) (number : ℕ) → ChangedNoLinks before
    → ChangedNoLinks (before ++ Item.Delivered number ∷ [])
unfolding journal_steps_in
delivered_first before number is = let next : List Item = Item.Delivered number ∷ [] in record {
  newest = record { before = is.newest.before; items = is.newest.items ++ next };
  earlier = is.earlier;
  steps = cc (folded_append machine_item_changes_steps [] before next, is.steps);
  ends = cc (append_assoc is.newest.before is.newest.items next, is.ends);
  none = have_append (λ journal other. IsFalse (machine_item_concerns_links journal other))
      is.newest.before is.newest.items next is.none (refl, tt);
}

-- ---- a delivery

-- what is said to a switch it has heard last, once it is delivered
heard_now : (before : List Item) (row s number : ℕ) (step : Step) (body : Body)
    → journal_body_to_switch before s number ≡ Some body → let here = before ++ Item.Row row step ∷ [] in
    heard (here ++ Item.Delivered number ∷ []) s ≡ heard here s ++ body ∷ []
heard_now before row s number step body said =
    let here : List Item = before ++ Item.Row row step ∷ [] in
    heard_more here (Item.Delivered number) s
    ∙ ap (λ o. option_map_or (λ b. heard here s ++ b ∷ []) o (heard here s))
    (said_row before row s number step ∙ said)

news_of_other : (origin s : ℕ) (news : Bool) → (not (origin == s) && news) ≡ true
    → (origin == s) ≡ false
news_of_other origin s news is = by_test (origin == s) is where
  by_test : (b : Bool) → (not b && news) ≡ true → b ≡ false
  by_test true is = absurd cc
  by_test false is = refl

switch_caused : (setting : Setting) (before now : List Item) (s : ℕ) (bodies : List Body)
    (body : Body) → ChangedNoLinks now → heard now s ≡ bodies ++ body ∷ []
    → HaveLinkCauses setting now (journal_switch_items setting before s body now)
switch_caused setting before now s bodies body first heard =
    switch_cases (HaveLinkCauses setting now) setting before s body now
    (λ boot version. sends_told setting now _ (tt, tt))
    (λ boot version. sends_told setting now _ (tt, tt))
    (λ boot version is. have_first (HasLinkCause setting) (Item.Opened s (journal_stamp_of now s))
    (journal_link_changes setting before) now first (changes_controller_heard setting before _))
    (λ advert is news. passed_told setting now s advert (last_heard before now s bodies advert
    (heard ∙ ap (λ b. bodies ++ b ∷ []) is) (news_of_other advert.origin s _ news))) tt

deliver_caused : (setting : Setting) (before : List Item) (row number : ℕ) (step : Step)
    → let here = before ++ Item.Row row step ∷ [] in
    HaveLinkCauses setting here (machine_deliver_items setting before number here)
deliver_caused setting before row number step = deliver_has (HasLinkCause setting) setting before
    number _ tt tt (λ body sent. are_caused setting _ _
    (control_plain _ _ (controller_control setting before body _))) (λ s body said. switch_caused
    setting before _ s _ body (delivered_first _ number (row_first before row step))
    (heard_now before row s number step body said))

-- ---- links, switches

link_caused : (setting : Setting) (before : List Item) (one two : ℕ) (up : Bool)
    (journal : List Item) → ChangedNoLinks journal
    → HaveLinkCauses setting journal (machine_link_items setting before one two up journal)
unfolding machine_link_items
link_caused setting before one two up journal first = grind
    (arith, have_first, changes_controller_heard)

down_caused : (setting : Setting) (before : List Item) (s : ℕ) (packets : List ℕ)
    (journal : List Item) → ChangedNoLinks journal → HaveLinkCauses setting journal
    (journal_items_then (Item.Down s ∷ map Item.Lost packets) (journal_link_changes setting before) journal)
down_caused setting before s packets journal first =
    let down : List Item = Item.Down s ∷ map Item.Lost packets in
    have_put (HasLinkCause setting) down (journal_link_changes setting before) journal
    (first, losts_have (HasLinkCause setting) (λ now i. tt) packets (journal ++ Item.Down s ∷ []))
    (changes_controller_heard setting before (journal ++ down))

crash_caused : (setting : Setting) (before : List Item) (s : ℕ) (journal : List Item)
    → ChangedNoLinks journal → HaveLinkCauses setting journal (journal_crash_items setting before s journal)
unfolding journal_crash_items
crash_caused setting before s journal first = grind (arith, down_caused)

restart_caused : (setting : Setting) (s : ℕ) (journal : List Item) → ChangedNoLinks journal
    → HaveLinkCauses setting journal (machine_restart_items s journal)
unfolding machine_restart_items machine_sent_items_from
restart_caused setting s journal first = grind arith

-- ---- all steps

step_caused : (setting : Setting) (before : List Item) (row : ℕ) (step : Step)
    → let here = before ++ Item.Row row step ∷ [] in
    HaveLinkCauses setting here (machine_step_items setting before step here)
step_caused setting before row (Packet s header) =
    are_caused setting _ _ (packet_plain setting (journal_next_packet before) s header _)
step_caused setting before row (Deliver message) =
    deliver_caused setting before row message (Deliver message)
step_caused setting before row (Update file) =
    are_caused setting _ _ (update_has IsPlain control_is_plain setting file _ (λ version. tt))
step_caused setting before row (LinkDown one two) =
    link_caused setting before one two false _ (row_first before row (LinkDown one two))
step_caused setting before row (LinkUp one two) =
    link_caused setting before one two true _ (row_first before row (LinkUp one two))
step_caused setting before row (Crash s) =
    crash_caused setting before s _ (row_first before row (Crash s))
step_caused setting before row (Restart s) =
    restart_caused setting s _ (row_first before row (Restart s))
step_caused setting before row (Confirm s) =
    are_caused setting _ _ (control_plain _ _ (confirm_control setting s _))
step_caused setting before row (Resend s) = resend_caused setting s _
step_caused setting before row step = are_caused setting _ _ (step_plain setting before step _ tt)

pub pieces_caused : (setting : Setting) → PiecesHave (HasLinkCause setting) setting
pieces_caused setting journal row step =
    piece_has (HasLinkCause setting) setting journal row step tt (step_caused setting journal _ _)

-- ---- each item of any steps has both its causes

abbrev pub HasBothCauses : Setting → List Item → Item → Type 0
HasBothCauses setting = Both (HasControlItemCause setting) (HasLinkCause setting)

pieces_have_both : (setting : Setting) → PiecesHave (HasBothCauses setting) setting
pieces_have_both setting journal row step = have_both (HasControlItemCause setting) (HasLinkCause setting)
    journal (piece setting journal row step) (pieces_have setting journal row step)
    (pieces_caused setting journal row step)

-- so a fact that follows from both causes of items is true after each item
pub behind_both : (Holds : Setting → List Item → Type 0)
    → ((setting : Setting) (journal : List Item) → JournalItemsHaveCauses (HasBothCauses setting) [] journal
    → Holds setting journal) → ControlLawHoldsBehindItems Holds
behind_both Holds caused = behind_items Holds HasBothCauses pieces_have_both caused

-- ---- all adverts

-- ---- facts of adverts

-- the first advert of a switch, with which the network begins
abbrev pub begun_with : Setting → ℕ → Advert
begun_with setting origin = first_advert origin (links_of setting.net.links origin)

-- what is true of an advert after a journal; a switch sends its own if it has a neighbour
pub record IsAdvertFact (setting : Setting) (P : List Item → Advert → Type 0) : Type 0 where
  pub kept : (before : List Item) (next : Item) → HasBothCauses setting before next →
      (advert : Advert) → P before advert → P (before ++ next ∷ []) advert
  pub own : (journal : List Item) (s neighbour : ℕ) →
      IsTrue (has (near setting journal s) neighbour) → P journal (own_advert setting journal s)
  pub first : (origin : ℕ) → StepSwitchExists setting.net origin → P [] (begun_with setting origin)

abbrev pub IfAdvert : (Advert → Type 0) → Body → Type 0
IfAdvert P (Advertise advert) = P advert
IfAdvert P _ = ⊤

-- what is kept of it, item by item
pub record AreSuch (setting : Setting) (P : List Item → Advert → Type 0) (journal : List Item)
    : Type 0 where
  pub sent : (n : ℕ) (message : Message) → journal_message_of journal n ≡ Some message →
      IfAdvert (P journal) message.body
  pub heard : (s : ℕ) → All (P journal) (journal_adverts_heard journal s)
  pub first : (origin : ℕ) → StepSwitchExists setting.net origin → P journal (begun_with setting origin)

-- ---- adverts that a switch knows

middle : (P : Advert → Type 0) (earlier : List Advert) (advert : Advert) (later : List Advert)
    → AllByRecursion P (earlier ++ advert ∷ later) → P advert
middle P [] advert later all = all.0
middle P (x ∷ earlier) advert later all = middle P earlier advert later all.1

first_such : (setting : Setting) (P : Advert → Type 0)
    → ((origin : ℕ) → StepSwitchExists setting.net origin → P (begun_with setting origin))
    → (origin : ℕ) → origin < 64 → AllByRecursion P (option_to_list (held_advert (first_adverts
    (map (links_of setting.net.links) (machine_switches_of setting)) (length setting.net.switches)) origin))
first_such setting P such origin small =
    rw (held-first near (length setting.net.switches) origin small)
    (by_test (nat_lt origin (length setting.net.switches)) refl)
  where
    near : List ℕ
    near = map (links_of setting.net.links) (machine_switches_of setting)

    by_test : (b : Bool) → nat_lt origin (length setting.net.switches) ≡ b → AllByRecursion P
        (option_to_list (if b then Some (first_advert origin (slice_index near origin)) else None))
    by_test true e =
        let there : origin < length setting.net.switches = grind (arith, nat_tests) in
        let links = get_or-map-range_with_len (links_of setting.net.links) 0
        (length setting.net.switches) origin origin 0 there (omega arith) in
        (subst (λ up. P (first_advert origin up)) (sym links) (such origin there), tt)
    by_test false e = tt

pub none_held : (origin : ℕ) → origin < 64 → held_advert no_adverts origin ≡ None
none_held origin small = get_or-replicate 64 origin None None small

begun_such : (setting : Setting) (P : Advert → Type 0) (journal : List Item) (s origin : ℕ)
    → ((from : ℕ) → StepSwitchExists setting.net from → P (begun_with setting from)) → origin < 64
    → AllByRecursion P (option_to_list (held_advert (journal_adverts_begun setting journal s) origin))
begun_such setting P journal s origin such small = by_test (is_first_boot_in_journal journal s) where
  by_test : (b : Bool) → AllByRecursion P
      (option_to_list (held_advert (if b then first_adverts (map (links_of setting.net.links)
      (machine_switches_of setting)) (length setting.net.switches) else no_adverts) origin))
  by_test true = first_such setting P such origin small
  by_test false = rw (none_held origin small) tt

pub own_told : (own advert : Advert) → journal_own_advert_sent own ≡ Some advert → own ≡ advert
own_told own advert told = by_test (own.seq == 0) told where
  by_test : (b : Bool) → (if b then None else Some own) ≡ Some advert → own ≡ advert
  by_test true told = absurd cc
  by_test false told = cc

-- an advert of another switch that it knows is the newest that it heard or began with
pub is_newest : (setting : Setting) (journal : List Item) (s origin : ℕ) (advert : Advert)
    → origin ≢ s → origin < 64 → journal_advert_known setting journal s origin ≡ Some advert
    → IsNewestAdvert origin (option_to_list (held_advert (journal_adverts_begun setting journal s) origin)
    ++ journal_adverts_heard journal s) (Some advert)
is_newest setting journal s origin advert apart small known = rw known at
    (known_link_laws.newest setting journal s origin apart small)

-- an advert that a switch knows is its own, or it heard it or began with it
pub known_such : (setting : Setting) (P : List Item → Advert → Type 0) (journal : List Item)
    → AreSuch setting P journal → (s origin : ℕ) (advert : Advert) → origin < 64
    → P journal (own_advert setting journal s)
    → journal_advert_known setting journal s origin ≡ Some advert → P journal advert
known_such setting P journal such s origin advert small told known = elim (cases_eq origin s) [
  | inl same ↦
      let own = sym (known_link_laws.own setting journal s (subst (λ x. x < 64) same small))
      ∙ ap (journal_advert_known setting journal s) (sym same) ∙ known in
      subst (P journal) (own_told (own_advert setting journal s) advert own) told
  | inr apart ↦ let newest = is_newest setting journal s origin advert apart small known in
      middle (P journal) newest.0 advert newest.1
      (subst (AllByRecursion (P journal)) newest.2 (each_append (P journal)
      (option_to_list (held_advert (journal_adverts_begun setting journal s) origin))
      (journal_adverts_heard journal s) (begun_such setting (P journal) journal s origin such.first
      small) (recursion_from_All (P journal) (journal_adverts_heard journal s) (such.heard s))))
]

-- ---- adverts that are sent

told_such : (setting : Setting) (P : List Item → Advert → Type 0) → IsAdvertFact setting P
    → (journal : List Item) → AreSuch setting P journal
    → (advert : Advert) → IsTold setting journal advert → P journal advert
told_such setting P fact journal such advert told = elim told.which [
  | inl own ↦ subst (P journal) (sym own) tells
  | inr other ↦ elim other [
    | inl held ↦ known_such setting P journal such told.switch held.origin advert held.small tells
        held.held
    | inr last ↦ middle (P journal) last.earlier advert []
        (subst (AllByRecursion (P journal)) last.heard (recursion_from_All (P journal)
        (journal_adverts_heard journal told.switch) (such.heard told.switch)))
  ]
] where
  tells : P journal (own_advert setting journal told.switch)
  tells = fact.own journal told.switch told.neighbour told.near

told_body : (setting : Setting) (P : List Item → Advert → Type 0) → IsAdvertFact setting P
    → (journal : List Item) → AreSuch setting P journal
    → (body : Body) → IsToldIn setting journal body → IfAdvert (P journal) body
told_body setting P fact journal such (Advertise advert) told =
    told_such setting P fact journal such advert told
told_body setting P fact journal such _ told = tt

weaker_body : (P Q : Advert → Type 0) → ((advert : Advert) → P advert → Q advert)
    → (body : Body) → IfAdvert P body → IfAdvert Q body
weaker_body P Q f (Advertise advert) such = f advert such
weaker_body P Q f _ such = tt

sent_on : (setting : Setting) (P : List Item → Advert → Type 0) → IsAdvertFact setting P
    → (before : List Item) (next : Item) → HasBothCauses setting before next
    → AreSuch setting P before → (n : ℕ) (message : Message)
    → journal_message_of (before ++ next ∷ []) n ≡ Some message
    → IfAdvert (P (before ++ next ∷ [])) message.body
sent_on setting P fact before next both such n message is =
    weaker_body (P before) (P (before ++ next ∷ [])) (fact.kept before next both) message.body
    (elim (by_number before next n message is) [
      | inl new ↦ told_body setting P fact before such message.body (rw new at both).second
      | inr old ↦ such.sent n message old
    ])

-- ---- adverts that are heard

one_heard : (Q : Advert → Type 0) (s : ℕ) (body : Body) → IfAdvert Q body
    → All Q (filter_map (machine_advert_of_other s) (body ∷ []))
one_heard Q s (Advertise advert) such = by_test (advert.origin == s) refl where
  by_test : (b : Bool) → (advert.origin == s) ≡ b
      → All Q (filter_map (machine_advert_of_other s) (Advertise advert ∷ []))
  by_test true e = rw e (All-nil Q)
  by_test false e = rw e (All-cons Q advert [] such (All-nil Q))
one_heard Q s _ such = All-nil Q

heard_such : (Q : Advert → Type 0) (before : List Item) (next : Item) (s : ℕ) → All Q
    (journal_adverts_heard before s)
    → ((n : ℕ) (message : Message) → journal_message_of before n ≡ Some message → IfAdvert Q message.body)
    → All Q (journal_adverts_heard (before ++ next ∷ []) s)
heard_such Q before (Item.Down t) s old sent = rw (heard_more before (Item.Down t) s)
    (by_test (t == s))
  where
    by_test : (b : Bool) → All Q (filter_map (machine_advert_of_other s) (if b then [] else heard before s))
    by_test true = All-nil Q
    by_test false = old
heard_such Q before (Item.Booted t boot) s old sent = rw (heard_more before (Item.Booted t boot) s)
    (by_test (t == s))
  where
    by_test : (b : Bool) → All Q (filter_map (machine_advert_of_other s) (if b then [] else heard before s))
    by_test true = All-nil Q
    by_test false = old
heard_such Q before (Item.Delivered number) s old sent =
    rw (heard_more before (Item.Delivered number) s) (by_said (journal_body_to_switch before s number) refl)
  where
    by_said : (said : Option Body) → journal_body_to_switch before s number ≡ said
        → All Q (filter_map (machine_advert_of_other s)
        (option_map_or (λ body. heard before s ++ body ∷ []) said (heard before s)))
    by_said None e = old
    by_said (Some body) e = All-same Q (filter_map (machine_advert_of_other s) (heard before s ++ body ∷ []))
        (journal_adverts_heard before s ++ filter_map (machine_advert_of_other s) (body ∷ []))
        (filter_map-append (machine_advert_of_other s) (heard before s) (body ∷ [])) (All-append Q
        (journal_adverts_heard before s) (filter_map (machine_advert_of_other s) (body ∷ [])) old (one_heard Q s body
        (sent number (machine_message_to_switch s body) (said_parts before s number body e).sent)))
heard_such Q before next s old sent = rw (heard_more before next s) old

-- ---- all of them

pub such_kept : (setting : Setting) (P : List Item → Advert → Type 0) → IsAdvertFact setting P
    → AreKept (HasBothCauses setting) (AreSuch setting P)
such_kept setting P fact before next both such = record {
  sent = λ n message is. sent_on setting P fact before next both such n message is;
  heard = λ s. heard_such (P (before ++ next ∷ [])) before next s
      (All-weaker (P before) (P (before ++ next ∷ [])) (fact.kept before next both)
      (journal_adverts_heard before s) (such.heard s)) (λ n message is. weaker_body (P before)
      (P (before ++ next ∷ [])) (fact.kept before next both) message.body (such.sent n message is));
  first = λ origin there. fact.kept before next both (begun_with setting origin)
      (such.first origin there);
}

pub such_at_first : (setting : Setting) (P : List Item → Advert → Type 0) → IsAdvertFact setting P
    → AreSuch setting P []
such_at_first setting P fact = record {
  sent = λ n message is.
      let none : None ≡ Some message = rw (start_laws.message n).message at is in absurd cc;
  heard = λ s. rw (start_laws.heard s) (All-nil (P []));
  first = fact.first;
}

pub such_on : (setting : Setting) (P : List Item → Advert → Type 0) → IsAdvertFact setting P
    → (journal : List Item) → JournalItemsHaveCauses (HasBothCauses setting) [] journal
    → AreSuch setting P journal
such_on setting P fact journal have = fact_on (HasBothCauses setting) (AreSuch setting P)
    (such_kept setting P fact) [] journal have (such_at_first setting P fact)

-- where it is so of the own advert of each switch, told or not
pub all_such : (setting : Setting) (P : List Item → Advert → Type 0) → IsAdvertFact setting P
    → (journal : List Item) → JournalItemsHaveCauses (HasBothCauses setting) [] journal
    → ((s : ℕ) → P journal (own_advert setting journal s)) → AllControlAdverts setting journal (P journal)
all_such setting P fact journal have own =
    let such : AreSuch setting P journal = such_on setting P fact journal have in record {
      sent = λ n s advert is. such.sent n (machine_advert_to s advert) is;
      heard = such.heard;
      held = λ s origin advert small known.
          known_such setting P journal such s origin advert small (own s) known;
      own = own;
    }
