-- A switch that serves stamps at least with the version at which it was opened, and with each that
-- it is known to stamp with.
use Rattle.base.proofs.Exports.{⊤, AllByRecursion, list_any, nat_tests, same_Some}
use Rattle.std.proofs.Common.{[], ◌++◌, ◌==◌, ◌||◌, ◌∙◌, ◌∷◌, ◌≡◌, ◌≤◌, Bool, IsFalse, IsTrue, List, None, Option, Some, ap, append-nil, append_assoc, arith, eqb-true, false, if◌then◌else◌, inl, inr, is_some, map, nat_eq, refl, subst, sym, take, true, ℕ}
use Rattle.update_machine.specs.Exports.{Advertise, Body, JournalItemsHaveCauses, Header, Item, Message, NoMachineItemConcerns, Setting, Step, MachineStepOfRow, acked_stamp, journal_after_steps, journal_boot_of, machine_item_concerns_links, journal_controller_heard, journal_crash_items, has_acked, heard, machine_installed_version, machine_body_installs_version, is_machine_advert_body, is_up, journal_items_then, journal_known_boot, journal_link_changes, nothing, journal_opened_at, machine_packet_items, journal_packets_at, machine_send_items, serves, journal_stamp_of, machine_stamped_version_in, machine_step_items}
use Rattle.control_laws.proofs.ControlCommands.{Control, IsCommand, IsControl, sends_any}
use Rattle.control_laws.proofs.ControlFactsGrown.{AreKept, FromCauses, from_causes, have_weaker, known_more, opened_in, opened_is, serving_more, steps_have}
use Rattle.control_laws.proofs.ControlTrafficItems.{IsChange, IsTraffic, IsWork, IsWorkStep, Work, change_traffic, links_change, packet_works, rule_cases, step_work}
use Rattle.update_machine.proofs.Exports.{PiecesHave, have_put, have_take, start_laws}
use Rattle.control_laws.specs.Exports.{ControlAcksHold, HasControlItemCause, ControlSwitchHeardTables, ControlLawHoldsAtEnds, ControlLawHoldsBehindItems}
use Rattle.control_laws.proofs.ControlSwitchOpenings.{IsKnown, IsServing, delivery_known, known_at_first, known_kept, opened_on, opening_known}
use Rattle.control_laws.proofs.ControlAckKinds.{AreTrue, of_stamps, of_tables, stamp_kept, true_at_first, true_on, turns}
use Rattle.control_laws.proofs.ControlSaidToController.{acked_stamp_within, each_at, open_within, told_by}

-- ---- blocks of a piece that change no links, and in which no advert is sent

-- the item changes no links, and sends no advert
abbrev pub IsPlain : List Item → Item → Type 0
IsPlain before (Item.Sent number message) = IsFalse (is_machine_advert_body message.body)
IsPlain before (Item.Down s) = ⊥
IsPlain before (Item.Booted s boot) = ⊥
IsPlain before (Item.Opened s version) = ⊥
IsPlain before (Item.LinkIs one two up) = ⊥
IsPlain before _ = ⊤

abbrev pub ArePlain : List Item → List Item → Type 0
ArePlain journal items = JournalItemsHaveCauses IsPlain journal items

no_link_change : (before : List Item) (next : Item) → IsPlain before next
    → IsFalse (machine_item_concerns_links before next)
no_link_change before (Item.Down s) plain = absurd plain
no_link_change before (Item.Booted s boot) plain = absurd plain
no_link_change before (Item.Opened s version) plain = absurd plain
no_link_change before (Item.LinkIs one two up) plain = absurd plain
no_link_change before _ plain = refl

pub plain_keeps_links : (before items : List Item) → ArePlain before items
    → NoMachineItemConcerns machine_item_concerns_links before items
plain_keeps_links before items plain = have_weaker IsPlain
    (λ journal next. IsFalse (machine_item_concerns_links journal next)) no_link_change before items plain

-- ---- messages

-- what is sent changes no links
pub sends_silent : (journal : List Item) (messages : List Message)
    → NoMachineItemConcerns machine_item_concerns_links journal (machine_send_items journal messages)
sends_silent =
    sends_any (λ before next. IsFalse (machine_item_concerns_links before next)) (λ before n message. refl)

-- ---- packets, and messages and cache rules that end

work_plain : (setting : Setting) (before : List Item) (next : Item) → IsWork setting before next
    → IsPlain before next
work_plain setting before (Item.Sent number message) is =
    rule_cases before (λ to body. IsFalse (is_machine_advert_body body))
    (λ s version word rule action there ingress. refl) message.to message.body is
work_plain setting before (Item.Down s) is = is
work_plain setting before (Item.Booted s boot) is = is
work_plain setting before (Item.Opened s version) is = is
work_plain setting before (Item.LinkIs one two up) is = is
work_plain setting before _ is = tt

works_plain : (setting : Setting) (journal items : List Item) → Work setting journal items
    → ArePlain journal items
works_plain setting journal items work =
    have_weaker (IsWork setting) IsPlain (work_plain setting) journal items work

pub packet_plain : (setting : Setting) (i s : ℕ) (header : Header) (journal : List Item)
    → ArePlain journal (machine_packet_items setting i s header journal)
packet_plain setting i s header journal =
    packet_works setting IsPlain (work_plain setting) i s header journal tt

pub step_plain : (setting : Setting) (before : List Item) (step : Step) (here : List Item)
    → IsWorkStep step → ArePlain here (machine_step_items setting before step here)
step_plain setting before step here is =
    works_plain setting here _ (step_work setting before step here is)

-- ---- the controller

command_plain : (body : Body) → IsCommand body → IsFalse (is_machine_advert_body body)
command_plain (Advertise advert) is = absurd is
command_plain _ is = refl

pub control_is_plain : (before : List Item) (next : Item) → IsControl before next → IsPlain before next
control_is_plain before (Item.Sent number message) is = command_plain message.body is
control_is_plain before (Item.Down s) is = is
control_is_plain before (Item.Booted s boot) is = is
control_is_plain before (Item.Opened s version) is = is
control_is_plain before (Item.LinkIs one two up) is = is
control_is_plain before _ is = tt

pub control_plain : (journal items : List Item) → Control journal items → ArePlain journal items
control_plain = have_weaker IsControl IsPlain control_is_plain

-- ---- what is true after each item, and what at the end of each step

-- what is true after any steps is true in answers to schedules
pub at_ends : (Holds : Setting → List Item → Type 0)
    → ((setting : Setting) (steps : List MachineStepOfRow) → Holds setting (journal_after_steps setting [] steps))
    → ControlLawHoldsAtEnds Holds
at_ends Holds stepped = record {
  stepped = stepped;
  answered = λ setting events journal answers. rw answers.written (stepped setting answers.steps);
  so_far = λ setting events journal answers. rw answers.written (stepped setting answers.steps);
}

-- a fact that follows from causes that each piece has, is true after each item
pub behind_items : (Holds : Setting → List Item → Type 0)
    (cause : Setting → List Item → Item → Type 0)
    → ((setting : Setting) → PiecesHave (cause setting) setting)
    → ((setting : Setting) (journal : List Item) → JournalItemsHaveCauses (cause setting) [] journal
    → Holds setting journal) → ControlLawHoldsBehindItems Holds
behind_items Holds cause pieces caused = record {
  items = some_items;
  ends = at_ends Holds
      (λ setting steps. caused setting (journal_after_steps setting [] steps) (all_have setting steps));
  begun = λ setting events journal begins. subst (Holds setting)
      (sym (begins.written ∙ ap (take begins.length) begins.answers.written))
      (some_items setting begins.answers.steps begins.length);
} where
  all_have : (setting : Setting) (steps : List MachineStepOfRow)
      → JournalItemsHaveCauses (cause setting) [] (journal_after_steps setting [] steps)
  all_have setting steps = steps_have (cause setting) setting (pieces setting) [] steps tt

  some_items : (setting : Setting) (steps : List MachineStepOfRow) (n : ℕ)
      → Holds setting (take n (journal_after_steps setting [] steps))
  some_items setting steps n = caused setting (take n (journal_after_steps setting [] steps))
      (have_take (cause setting) [] (journal_after_steps setting [] steps) n (all_have setting steps))

-- ---- switches that crash, and the packets that are lost with them

-- ---- packets that are lost

pub losts_have : (cause : List Item → Item → Type 0) →
    ((before : List Item) (i : ℕ) → cause before (Item.Lost i)) →
    (packets : List ℕ) (journal : List Item) → JournalItemsHaveCauses cause journal (map Item.Lost packets)
losts_have cause has [] journal = tt
losts_have cause has (i ∷ packets) journal =
    (has journal i, losts_have cause has packets (journal ++ Item.Lost i ∷ []))

-- what no loss changes
pub losts_keep : {A : Type 0} (says : List Item → A) →
    ((before : List Item) (i : ℕ) → says (before ++ Item.Lost i ∷ []) ≡ says before) →
    (packets : List ℕ) (journal : List Item)
    → says (journal ++ map Item.Lost packets) ≡ says journal
losts_keep says same [] journal = ap says (append-nil journal)
losts_keep says same (i ∷ packets) journal =
    ap says (sym (append_assoc journal (Item.Lost i ∷ []) (map Item.Lost packets)))
    ∙ losts_keep says same packets (journal ++ Item.Lost i ∷ []) ∙ same journal i

-- ---- switches

-- that a switch is down is no change of links: its cause is to be given
pub crash_changes : (setting : Setting) (cause : List Item → Item → Type 0) →
    ((before : List Item) (next : Item) → IsChange setting before next → cause before next) →
    (before : List Item) (s : ℕ) (journal : List Item)
    → (is_up before s ≡ true → cause journal (Item.Down s))
    → JournalItemsHaveCauses cause journal (journal_crash_items setting before s journal)
unfolding journal_crash_items
crash_changes setting cause weaker before s journal downs = by_up (is_up before s) refl where
  lost : List Item
  lost = map Item.Lost (journal_packets_at before s)

  by_up : (b : Bool) → is_up before s ≡ b → JournalItemsHaveCauses cause journal (elim b [
    | false ↦ nothing
    | true ↦ journal_items_then (Item.Down s ∷ lost) (journal_link_changes setting before) journal
  ])
  by_up false e = (weaker journal Item.Nothing tt, tt)
  by_up true e = have_put cause (Item.Down s ∷ lost) (journal_link_changes setting before) journal (
    downs e,
    losts_have cause (λ now i. weaker now (Item.Lost i) tt) (journal_packets_at before s)
        (journal ++ Item.Down s ∷ []),
  )
      (have_weaker (IsChange setting) cause weaker (journal ++ (Item.Down s ∷ lost)) _
      (links_change setting before (journal ++ (Item.Down s ∷ lost))))

pub crash_has : (setting : Setting) (cause : List Item → Item → Type 0) →
    ((before : List Item) (next : Item) → IsTraffic setting before next → cause before next) →
    (before : List Item) (s : ℕ) (journal : List Item)
    → (is_up before s ≡ true → cause journal (Item.Down s))
    → JournalItemsHaveCauses cause journal (journal_crash_items setting before s journal)
crash_has setting cause weaker = crash_changes setting cause
    (λ before next is. weaker before next (change_traffic setting before next is))

-- ---- what switches acknowledged holds

-- what is known of boots, and acknowledgements that are true
pub record IsTold (journal : List Item) : Type 0 where
  pub known : IsKnown journal
  pub tables : AreTrue of_tables journal
  pub stamps : AreTrue of_stamps journal

pub told_kept : (setting : Setting) → AreKept (HasControlItemCause setting) IsTold
told_kept setting before next cause told = record {
  known = known_kept setting before next cause told.known;
  tables = true_on of_tables setting before next cause told.known.boots told.tables;
  stamps = true_on of_stamps setting before next cause told.known.boots told.stamps;
}

pub told_at_first : IsTold []
told_at_first = record {
  known = known_at_first;
  tables = true_at_first of_tables;
  stamps = true_at_first of_stamps;
}

pub caused_told : FromCauses (λ setting. IsTold)
caused_told = from_causes (λ setting. IsTold) told_kept (λ setting. told_at_first)

-- what it is known to have acknowledged, it has
acked_is : (journal : List Item) (s version : ℕ) → AreTrue of_tables journal
    → IsTrue (is_up journal s) → journal_known_boot journal s ≡ journal_boot_of journal s
    → IsTrue (has_acked journal s version) → ControlSwitchHeardTables journal s version
unfolding has_acked
acked_is journal s version tables up known acked = by_first (journal_known_boot journal s == 1) refl acked
  where
    later : IsTrue (list_any (nat_eq version)
        (told_by (machine_installed_version s (journal_known_boot journal s)) journal)) → ControlSwitchHeardTables journal s version
    later any = inr (each_at (λ v. IsTrue (list_any (machine_body_installs_version v) (heard journal s))) version
        (told_by (machine_installed_version s (journal_boot_of journal s)) journal) (tables.told s up) (rw known at any))

    by_version : (b : Bool) → nat_eq version 1 ≡ b → journal_boot_of journal s ≡ 1 → IsTrue
        (b || list_any (nat_eq version) (told_by (machine_installed_version s (journal_known_boot journal s)) journal))
        → ControlSwitchHeardTables journal s version
    by_version true e first any = inl (eqb-true version 1 e, first)
    by_version false e first any = later any

    by_first : (b : Bool) → (journal_known_boot journal s == 1) ≡ b → IsTrue (list_any (nat_eq version)
        ((if b then 1 ∷ [] else []) ++ told_by (machine_installed_version s (journal_known_boot journal s)) journal))
        → ControlSwitchHeardTables journal s version
    by_first true e any = by_version (nat_eq version 1) refl
        (sym known ∙ eqb-true (journal_known_boot journal s) 1 e) any
    by_first false e any = later any

pub acks_hold : (journal : List Item) → IsTold journal → (s : ℕ) → ControlAcksHold journal s
acks_hold journal told s = record {
  installed = λ boot version n is up own. told.tables.sent s boot version n is up own;
  stamped = λ boot version n is up own. told.stamps.sent s boot version n is up own;
  acked = λ version up known acked. acked_is journal s version told.tables up known acked;
}

pub acks_held : FromCauses (λ setting journal. (s : ℕ) → ControlAcksHold journal s)
acks_held setting journal have = acks_hold journal (caused_told setting journal have)

-- ---- stamping switches

-- it stamps at least with the version at which it was opened
pub record StampsOpened (journal : List Item) (s : ℕ) : Type 0 where
  pub stamps : IsTrue (serves journal s) → (version : ℕ) → journal_opened_at journal s ≡ Some version
      → version ≤ journal_stamp_of journal s

-- if the known boot stays, so does the opening before
opening_stays : (before : List Item) (next : Item) (s version : ℕ)
    → journal_known_boot (before ++ next ∷ []) s ≡ journal_known_boot before s
    → IsTrue (is_some (journal_opened_at before s))
    → journal_opened_at (before ++ next ∷ []) s ≡ Some version → journal_opened_at before s ≡ Some version
opening_stays before next s version known is opened = by_opened (journal_opened_at before s) refl is where
  by_opened : (o : Option ℕ) → journal_opened_at before s ≡ o → IsTrue (is_some o)
      → journal_opened_at before s ≡ Some version
  by_opened None e is = absurd cc
  by_opened (Some w) e is =
      e ∙ sym (opened_is (before ++ next ∷ []) s ∙ ap (opened_in (before ++ next ∷ []) s) known
      ∙ opened_on before next s (journal_known_boot before s) w (sym (opened_is before s) ∙ e)) ∙ opened

-- a switch that served before, in a boot that goes on
served_on : (before : List Item) (next : Item) (s version : ℕ) → IsServing before s
    → StampsOpened before s → IsTrue (serves before s)
    → journal_known_boot (before ++ next ∷ []) s ≡ journal_known_boot before s → IsFalse (turns s next)
    → journal_opened_at (before ++ next ∷ []) s ≡ Some version → version ≤ journal_stamp_of (before ++ next ∷ []) s
served_on before next s version serving stamps served known same opened = omega (
  arith,
  stamp_kept before next s same,
  stamps.stamps served version
      (opening_stays before next s version known (serving.opened served) opened),
)

stamps_on : (setting : Setting) (before : List Item) (next : Item) (s : ℕ)
    → HasControlItemCause setting before next → IsKnown before → StampsOpened before s
    → IsTrue (serves (before ++ next ∷ []) s) → (version : ℕ)
    → journal_opened_at (before ++ next ∷ []) s ≡ Some version
    → version ≤ journal_stamp_of (before ++ next ∷ []) s
stamps_on setting before (Item.Opened t stamp) s cause known is serving version opened =
    by_test (t == s) refl
  where
    next : Item
    next = Item.Opened t stamp

    by_test : (b : Bool) → (t == s) ≡ b → version ≤ journal_stamp_of (before ++ next ∷ []) s
    by_test true e =
        let own : t ≡ s = eqb-true t s e in
        let same = opening_known before t cause.number cause.version known.boots cause.sent in
        let at = opened_is before t ∙ ap (opened_in before t) same
        ∙ known.openings t (journal_boot_of before t) cause.version cause.number cause.sent in
        let here = subst (λ x. journal_opened_at before x ≡ Some cause.version) own at in
        let still = opened_is (before ++ next ∷ []) s
        ∙ ap (opened_in (before ++ next ∷ []) s) (known_more before next s) ∙ opened_on before next
        s (journal_known_boot before s) cause.version (sym (opened_is before s) ∙ here) in
        let of : Some version ≡ Some cause.version = sym opened ∙ still in
        let is_own : version ≡ cause.version = cc in
        let stamped = subst (λ x. cause.version ≤ journal_stamp_of before x) own cause.stamped in
        omega (arith, is_own, stamped, stamp_kept before next s refl)
    by_test false e =
        let served : IsTrue (serves before s) = rw (serving_more before next s, e) at serving in
        served_on before next s version (known.serving s) is served (known_more before next s) refl
        opened
stamps_on setting before (Item.Down t) s cause known is serving version opened =
    let after : serves (before ++ Item.Down t ∷ []) s ≡ true = serving in
    let more = serving_more before (Item.Down t) s in
    let apart : (t == s) ≡ false = grind (arith, nat_tests) in
    served_on before (Item.Down t) s version (known.serving s) is (grind (arith, nat_tests))
    (known_more before (Item.Down t) s) apart opened
stamps_on setting before (Item.Booted t boot) s cause known is serving version opened =
    let after : serves (before ++ Item.Booted t boot ∷ []) s ≡ true = serving in
    let more = serving_more before (Item.Booted t boot) s in
    let apart : (t == s) ≡ false = grind (arith, nat_tests) in
    served_on before (Item.Booted t boot) s version (known.serving s) is (grind (arith, nat_tests))
    (known_more before (Item.Booted t boot) s) apart opened
stamps_on setting before (Item.Delivered number) s cause known is serving version opened =
    let served : IsTrue (serves before s) =
    rw (serving_more before (Item.Delivered number) s) at serving in
    served_on before (Item.Delivered number) s version (known.serving s) is served
    (delivery_known before s number known.boots ((known.serving s).known served)) refl opened
stamps_on setting before next s cause known is serving version opened =
    served_on before next s version (known.serving s) is
    (rw (serving_more before next s) at serving) (known_more before next s) refl opened

pub opened_stamps_on : (setting : Setting) (before : List Item) (next : Item) (s : ℕ)
    → HasControlItemCause setting before next → IsKnown before → StampsOpened before s
    → StampsOpened (before ++ next ∷ []) s
opened_stamps_on setting before next s cause known is = record {
  stamps = λ serving version opened.
      stamps_on setting before next s cause known is serving version opened;
}

pub opened_stamps_at_first : (s : ℕ) → StampsOpened [] s
unfolding journal_opened_at journal_known_boot journal_controller_heard
opened_stamps_at_first s = record {
  stamps = λ serving version opened. omega (arith, same_Some 1 version opened, start_laws.stamp s);
}

-- ---- the acknowledged stamp

-- a switch that serves stamps at least with what it is known to stamp with
pub serving_stamps : (journal : List Item) (s : ℕ) → IsKnown journal → AreTrue of_stamps journal
    → StampsOpened journal s → IsTrue (serves journal s)
    → acked_stamp journal s ≤ journal_stamp_of journal s
serving_stamps journal s known stamps is serving = acked_stamp_within journal s (journal_stamp_of journal s)
    (open_within journal s (journal_stamp_of journal s) (is.stamps serving))
    (rw ((known.serving s).known serving) (stamps.told s ((known.serving s).up serving)))
