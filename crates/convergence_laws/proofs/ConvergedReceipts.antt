-- In a quiet journal what matters was heard, or what replaces it.
use Rattle.std.proofs.Common.{[], ◌&&◌, ◌++◌, ◌<◌, ◌==◌, ◌||◌, ◌∙◌, ◌∷◌, ◌≡◌, ◌≤◌, ◌⊎◌, Bool, IsFalse, IsTrue, List, Some, ap, append-nil, append_assoc, arith, eq-eqb, eqb-true, false, inl, inr, refl, subst, sym, true, ℕ, rules}
use Rattle.base.proofs.Exports.{list_any, nat_tests, ⊤}
use Rattle.ctrl_msg.specs.Exports.{body_boot, message_to_controller}
use Rattle.update_machine.specs.Exports.{AreMachineMessagesReceived, Body, JournalItemsHaveCauses, IsQuietMachineJournal, IsJournalMessageReceived, IsJournalMessageReplaced, Item, Message, Place, MachineMessageReplaces, MachineSending, Setting, are_machine_tables_old, machine_item_begins_boot, journal_receiver_boot_at, journal_boot_of, changes_journal_sendings, journal_controller_heard, journal_current_mark, folded_journal_from, heard, is_journal_body_for_boot, is_machine_later_body, is_machine_ack_below_version, is_up, machine_message_matters, machine_sendings, machine_speaking_in_body, machine_message_to_switch, was_delivered_in_journal}
use Rattle.steps.specs.Exports.{StepSwitchExists}
use Rattle.update_machine.proofs.Exports.{count_of_append}
use Rattle.control_laws.specs.Exports.{HasControlItemCause}
use Rattle.control_laws.proofs.Exports.{boot_more, boot_rises, have_weaker}
use Rattle.convergence_laws.proofs.ConvergencePlainItems.{IsIn, each_in, in_either, in_left, in_right}
use Rattle.convergence_laws.proofs.ConvergenceMessages.{AreTraced, IsInOrder, IsSent, IsTraced, SwitchCourse, caused_traced, sendings_more, sent_by}

-- ---- sendings

-- the message, its number and its boot
pub record IsSentAs (journal : List Item) (message : Message) : Type 0 where
  pub number : ℕ
  pub boot : ℕ
  pub is : IsIn (record { number = number; message = message; boot = boot }) (machine_sendings journal)

pub sent_as : (journal : List Item) (message : Message) → IsSent journal message
    → IsSentAs journal message
sent_as journal message sent = let x : MachineSending = sent.sending in record {
  number = x.number;
  boot = x.boot;
  is = subst (λ y. IsIn y (machine_sendings journal))
      (ap (λ m. record { number = x.number; message = m; boot = x.boot }) sent.of) sent.is;
}

pub sendings_on : (journal items : List Item) (x : MachineSending) → IsIn x (machine_sendings journal)
    → IsIn x (machine_sendings (journal ++ items))
sendings_on journal [] x is = subst (λ now. IsIn x (machine_sendings now)) (sym (append-nil journal)) is
sendings_on journal (next ∷ items) x is = rw (append_assoc journal (next ∷ []) items) at
    (sendings_on (journal ++ next ∷ []) items x
    (rw (sendings_more journal next) (in_left x (machine_sendings journal) (sent_by journal next) is)))

-- what an item of a journal sends
pub in_sendings : (journal front : List Item) (number : ℕ) (message : Message) (rest : List Item)
    → journal ≡ front ++ Item.Sent number message ∷ rest
    → IsIn (record { number = number; message = message; boot = journal_receiver_boot_at front message.to })
    (machine_sendings journal)
in_sendings journal front number message rest is =
    let next : Item = Item.Sent number message in
    let x : MachineSending = record {
      number = number;
      message = message;
      boot = journal_receiver_boot_at front message.to;
    } in
    subst (λ now. IsIn x (machine_sendings now)) (append_assoc front (next ∷ []) rest ∙ sym is)
    (sendings_on (front ++ next ∷ []) rest x
    (rw (sendings_more front next) (in_right x (machine_sendings front) (sent_by front next) (inl refl))))

-- where a message was sent: by one of these items after a journal; if it matters, it was received
record IsSentBehind (setting : Setting) (journal before items : List Item) (x : MachineSending)
    : Type 0 where
  between : List Item
  after : List Item
  is : items ≡ between ++ Item.Sent x.number x.message ∷ after
  boot : x.boot ≡ journal_receiver_boot_at (before ++ between) x.message.to
  received : (s : ℕ) → StepSwitchExists setting.net s → IsTrue (machine_message_matters journal s x.message after)
      → IsJournalMessageReceived x.number x.message after

behind_one : (setting : Setting) (journal before : List Item) (next : Item) (items : List Item)
    (x : MachineSending) → IsSentBehind setting journal (before ++ next ∷ []) items x
    → IsSentBehind setting journal before (next ∷ items) x
behind_one setting journal before next items x sent = search (rules, append_assoc)

sent_behind : (setting : Setting) (journal before : List Item) (value : List MachineSending)
    (items : List Item) (x : MachineSending) → AreMachineMessagesReceived setting journal items
    → IsIn x (folded_journal_from changes_journal_sendings before value items)
    → IsIn x value ⊎ IsSentBehind setting journal before items x
sent_behind setting journal before value [] x received is = inl is
sent_behind setting journal before value (Item.Sent number message ∷ items) x received is = elim
    (sent_behind setting journal (before ++ next ∷ []) (value ++ own ∷ []) items x received.1 is) [
      | inl so_far ↦ elim (in_either x value (own ∷ []) so_far) [
        | inl old ↦ inl old
        | inr new ↦ elim new [
          | inl here ↦ inr (subst (IsSentBehind setting journal before (next ∷ items)) here first)
          | inr none ↦ absurd none
        ]
      ]
      | inr later ↦ inr (behind_one setting journal before next items x later)
    ]
  where
    next : Item
    next = Item.Sent number message

    own : MachineSending
    own = record { number = number; message = message; boot = journal_receiver_boot_at before message.to }

    first : IsSentBehind setting journal before (next ∷ items) own
    first = record {
      between = [];
      after = items;
      is = refl;
      boot = ap (λ js. journal_receiver_boot_at js message.to) (sym (append-nil before));
      received = received.0;
    }
sent_behind setting journal before value (next ∷ items) x received is = search
    (rules, behind_one, sent_behind setting journal (before ++ next ∷ []) value items x received is)

sent_at : (setting : Setting) (journal : List Item) (x : MachineSending) → AreMachineMessagesReceived setting journal
    journal → IsIn x (machine_sendings journal) → IsSentBehind setting journal [] journal x
unfolding machine_sendings
sent_at setting journal x received is = elim (sent_behind _ journal [] [] journal x received is) [
  | inl none ↦ absurd none
  | inr sent ↦ sent
]

-- ---- deliveries

pub delivered_append : (before after : List Item) (n : ℕ)
    → was_delivered_in_journal (before ++ after) n ≡ (was_delivered_in_journal before n || was_delivered_in_journal after n)
unfolding was_delivered_in_journal
delivered_append before after n = search (rules, nat_tests, count_of_append)

-- what was delivered at the end of a journal was delivered
delivered_behind : (journal front after : List Item) (n : ℕ) → journal ≡ front ++ after
    → IsTrue (was_delivered_in_journal after n) → IsTrue (was_delivered_in_journal journal n)
delivered_behind journal front after n is delivered = search (rules, delivered_append)

-- ---- boots

have_split : (cause : List Item → Item → Type 0) (before xs ys : List Item)
    → JournalItemsHaveCauses cause before (xs ++ ys)
    → JournalItemsHaveCauses cause before xs × JournalItemsHaveCauses cause (before ++ xs) ys
have_split cause before [] ys have = (tt, rw (append-nil before) have)
have_split cause before (x ∷ xs) ys have =
    let rest = have_split cause (before ++ x ∷ []) xs ys have.1 in (
      (have.0, rest.0),
      subst (λ js. JournalItemsHaveCauses cause js ys) (append_assoc before (x ∷ []) xs) rest.1,
    )

boots_rise : (setting : Setting) (before items : List Item) (s : ℕ)
    → JournalItemsHaveCauses (HasControlItemCause setting) before items
    → journal_boot_of before s ≤ journal_boot_of (before ++ items) s
boots_rise setting before [] s have = omega (arith, ap (λ js. journal_boot_of js s) (append-nil before))
boots_rise setting before (next ∷ items) s have = omega (
  arith,
  boot_rises setting before next s have.0,
  boots_rise setting (before ++ next ∷ []) items s have.1,
  ap (λ js. journal_boot_of js s) (append_assoc before (next ∷ []) items),
)

boot_begun : (setting : Setting) (before : List Item) (next : Item) (s : ℕ)
    → HasControlItemCause setting before next → machine_item_begins_boot s next ≡ true
    → journal_boot_of before s < journal_boot_of (before ++ next ∷ []) s
boot_begun setting before next s cause is = search (rules, eqb-true, boot_more)

-- items behind which a switch is in the same boot begin none of it
no_boot : (setting : Setting) (before items : List Item) (s : ℕ)
    → JournalItemsHaveCauses (HasControlItemCause setting) before items
    → journal_boot_of (before ++ items) s ≡ journal_boot_of before s → list_any (machine_item_begins_boot s) items ≡ false
no_boot setting before [] s have same = refl
no_boot setting before (next ∷ items) s have same =
    by_test (machine_item_begins_boot s next) refl (no_boot setting (before ++ next ∷ []) items s have.1)
  where
    on : journal_boot_of ((before ++ next ∷ []) ++ items) s ≡ journal_boot_of (before ++ next ∷ items) s
    on = ap (λ js. journal_boot_of js s) (append_assoc before (next ∷ []) items)

    rises : journal_boot_of (before ++ next ∷ []) s ≤ journal_boot_of ((before ++ next ∷ []) ++ items) s
    rises = boots_rise setting (before ++ next ∷ []) items s have.1

    by_test : (b : Bool) → machine_item_begins_boot s next ≡ b
        → (journal_boot_of ((before ++ next ∷ []) ++ items) s ≡ journal_boot_of (before ++ next ∷ []) s
        → list_any (machine_item_begins_boot s) items ≡ false) → (b || list_any (machine_item_begins_boot s) items) ≡ false
    by_test true e rest = absurd (omega (arith, on, rises, same, boot_begun _ _ next s have.0 e))
    by_test false e rest = rest (omega (arith, on, rises, same, boot_rises _ before next s have.0))

-- ---- what replaces a message

record IsReplacedBy (message : Message) (after : List Item) : Type 0 where
  number : ℕ
  later : Message
  between : List Item
  behind : List Item
  is : after ≡ between ++ Item.Sent number later ∷ behind
  replaces : MachineMessageReplaces later message
  delivered : IsTrue (was_delivered_in_journal behind number)

replaced_on : (message : Message) (next : Item) (after : List Item) → IsReplacedBy message after
    → IsReplacedBy message (next ∷ after)
replaced_on message next after found = record {
  number = found.number;
  later = found.later;
  between = next ∷ found.between;
  behind = found.behind;
  is = ap (λ xs. next ∷ xs) found.is;
  replaces = found.replaces;
  delivered = found.delivered;
}

replaced_by : (message : Message) (after : List Item) → IsJournalMessageReplaced message after
    → IsReplacedBy message after
replaced_by message [] replaced = absurd replaced
replaced_by message (Item.Sent number later ∷ after) replaced = elim replaced [
  | inl here ↦ record {
    number = number;
    later = later;
    between = [];
    behind = after;
    is = refl;
    replaces = here.0;
    delivered = here.1;
  }
  | inr rest ↦ replaced_on message (Item.Sent number later) after (replaced_by message after rest)
]
replaced_by message (next ∷ after) replaced = replaced_on _ next _ (replaced_by _ after replaced)

-- ---- what was received

-- the boot is that of the receiver
abbrev IsOwn : List Item → Place → ℕ → Type 0
IsOwn journal (Place.Switch s) boot = boot ≡ journal_boot_of journal s
IsOwn journal Place.Controller boot = ⊤

-- these items begin no boot of the receiver
abbrev IsSince : Place → List Item → Type 0
IsSince (Place.Switch s) after = IsFalse (list_any (machine_item_begins_boot s) after)
IsSince Place.Controller after = ⊤

-- a message that was delivered, and says the same or more to the same receiver in its boot
pub record IsGot (journal : List Item) (to : Place) (of : Body) : Type 0 where
  pub number : ℕ
  pub boot : ℕ
  pub body : Body
  pub is : IsIn (record {
    number = number;
    message = record { to = to; body = body };
    boot = boot;
  }) (machine_sendings journal)
  pub says : (body ≡ of) ⊎ IsTrue (is_machine_later_body body of)
  pub delivered : IsTrue (was_delivered_in_journal journal number)
  pub own : IsOwn journal to boot

pub got : (setting : Setting) (journal : List Item) (s number boot : ℕ) (to : Place) (body : Body)
    → IsQuietMachineJournal setting journal → JournalItemsHaveCauses (IsInOrder setting) [] journal → StepSwitchExists setting.net s
    → IsIn (record {
      number = number;
      message = record { to = to; body = body };
      boot = boot;
    }) (machine_sendings journal)
    → IsOwn journal to boot
    → ((after : List Item) → IsSince to after
    → IsTrue (machine_message_matters journal s (record { to = to; body = body }) after))
    → IsGot journal to body
got setting journal s number boot to body quiet have there is own matter =
    by_received (at.received s there (matter at.after (since to at.boot own)))
  where
    message : Message
    message = record { to = to; body = body }

    next : Item
    next = Item.Sent number message

    at : IsSentBehind setting journal [] journal
        (record { number = number; message = message; boot = boot })
    at = sent_at setting journal _ quiet.messages is

    causes : JournalItemsHaveCauses (HasControlItemCause setting) [] (at.between ++ next ∷ at.after)
    causes = subst (JournalItemsHaveCauses (HasControlItemCause setting) []) at.is (have_weaker (IsInOrder setting)
        (HasControlItemCause setting) (λ before item both. both.first) [] journal have)

    behind : JournalItemsHaveCauses (HasControlItemCause setting) at.between (next ∷ at.after)
    behind = (have_split (HasControlItemCause setting) [] at.between (next ∷ at.after) causes).1

    whole : (t : ℕ) → journal_boot_of ((at.between ++ next ∷ []) ++ at.after) t ≡ journal_boot_of journal t
    whole t = ap (λ js. journal_boot_of js t) (append_assoc at.between (next ∷ []) at.after ∙ sym at.is)

    since : (of : Place) → boot ≡ journal_receiver_boot_at at.between of → IsOwn journal of boot
        → IsSince of at.after
    since (Place.Switch t) before own = no_boot setting (at.between ++ next ∷ []) at.after t
        behind.1 (omega (arith, whole t, boot_more at.between next t, before, own))
    since Place.Controller before own = tt

    by_replaced : IsReplacedBy message at.after → IsGot journal to body
    by_replaced found = record {
      number = found.number;
      boot = journal_receiver_boot_at front to;
      body = found.later.body;
      is = subst (λ of. IsIn (record {
        number = found.number;
        message = record { to = of; body = found.later.body };
        boot = journal_receiver_boot_at front of;
      }) (machine_sendings journal)) found.replaces.receiver
          (in_sendings journal front found.number found.later found.behind split);
      says = found.replaces.says;
      delivered = delivered_behind journal (front ++ later ∷ []) found.behind found.number
          (split ∙ sym (append_assoc front (later ∷ []) found.behind)) found.delivered;
      own = still to at.boot own;
    } where
      later : Item
      later = Item.Sent found.number found.later

      front : List Item
      front = at.between ++ next ∷ found.between

      split : journal ≡ front ++ later ∷ found.behind
      split = at.is ∙ ap (λ xs. at.between ++ next ∷ xs) found.is
          ∙ sym (append_assoc at.between (next ∷ found.between) (later ∷ found.behind))

      parts : JournalItemsHaveCauses (HasControlItemCause setting) at.between (next ∷ found.between)
          × JournalItemsHaveCauses (HasControlItemCause setting) front (later ∷ found.behind)
      parts = have_split _ at.between _ (later ∷ found.behind) (rw found.is at behind)

      still : (of : Place) → boot ≡ journal_receiver_boot_at at.between of → IsOwn journal of boot
          → IsOwn journal of (journal_receiver_boot_at front of)
      still (Place.Switch t) before own = omega (
        arith,
        before,
        own,
        boots_rise setting at.between (next ∷ found.between) t parts.0,
        boots_rise setting front (later ∷ found.behind) t parts.1,
        ap (λ js. journal_boot_of js t) split,
      )
      still Place.Controller before own = tt

    by_received : IsJournalMessageReceived number message at.after → IsGot journal to body
    by_received (inl delivered) = record {
      number = number;
      boot = boot;
      body = body;
      is = is;
      says = inl refl;
      delivered = delivered_behind journal (at.between ++ next ∷ []) at.after number
          (at.is ∙ sym (append_assoc at.between (next ∷ []) at.after)) delivered;
      own = own;
    }
    by_received (inr replaced) = by_replaced (replaced_by message at.after replaced)

-- ---- at a switch

-- what replaces a body of a boot is of that boot
pub later_boot : (body of : Body) (boot : ℕ) → IsTrue (is_machine_later_body body of)
    → body_boot of ≡ Some boot → body_boot body ≡ Some boot
later_boot body of boot later is = search (rules, nat_tests)

pub says_boot : (body of : Body) (boot : ℕ) → (body ≡ of) ⊎ IsTrue (is_machine_later_body body of)
    → body_boot of ≡ Some boot → body_boot body ≡ Some boot
says_boot body of boot h3 is = search (rules, later_boot)

-- what was heard: the body, or one that replaces it
pub record WasHeard (bodies : List Body) (of : Body) : Type 0 where
  pub body : Body
  pub is : IsIn body bodies
  pub says : (body ≡ of) ⊎ IsTrue (is_machine_later_body body of)

-- a message to a switch that carries its boot was sent in that boot
pub own_boot : (journal : List Item) (s boot : ℕ) (x : MachineSending) → SwitchCourse journal s x
    → body_boot x.message.body ≡ Some boot → boot ≡ journal_boot_of journal s → x.boot ≡ boot
own_boot journal s boot x course of own = omega (arith, rw of at course.past, own, course.own)

pub heard_in_boot : (journal : List Item) (s number boot : ℕ) (body : Body) → AreTraced journal
    → IsIn (record { number = number; message = machine_message_to_switch s body; boot = boot }) (machine_sendings journal)
    → IsTrue (is_up journal s) → boot ≡ journal_boot_of journal s → IsTrue (is_journal_body_for_boot boot body)
    → IsTrue (was_delivered_in_journal journal number) → IsIn body (heard journal s)
heard_in_boot journal s number boot body traced is up own for delivered =
    let x : MachineSending = record { number = number; message = machine_message_to_switch s body; boot = boot } in
    (each_in (IsTraced journal) x (machine_sendings journal) traced.each is).course.heard up own for
    delivered

pub heard_of : (setting : Setting) (journal : List Item) (s : ℕ) (body : Body)
    → IsQuietMachineJournal setting journal → JournalItemsHaveCauses (IsInOrder setting) [] journal
    → StepSwitchExists setting.net s → IsSent journal (machine_message_to_switch s body)
    → IsTrue (is_up journal s) → body_boot body ≡ Some (journal_boot_of journal s)
    → IsFalse (are_machine_tables_old (journal_current_mark journal) body) → WasHeard (heard journal s) body
heard_of setting journal s body quiet causes there sent up of new =
    record { body = later.body; is = heard_later; says = later.says }
  where
    own : ℕ
    own = journal_boot_of journal s

    traced : AreTraced journal
    traced = caused_traced setting journal causes

    its : IsSentAs journal (machine_message_to_switch s body)
    its = sent_as journal (machine_message_to_switch s body) sent

    x : MachineSending
    x = record { number = its.number; message = machine_message_to_switch s body; boot = its.boot }

    boot : its.boot ≡ own
    boot = own_boot journal s own x (each_in _ x _ traced.each its.is).course of refl

    matter : (after : List Item) → IsFalse (list_any (machine_item_begins_boot s) after)
        → IsTrue (machine_message_matters journal s (machine_message_to_switch s body) after)
    matter after since =
        let none : list_any (machine_item_begins_boot s) after ≡ false = since in
        let mine : (own == own) ≡ true = eq-eqb own own refl in
        let fresh : are_machine_tables_old (journal_current_mark journal) body ≡ false = new in
        rw (up, eq-eqb s s refl, none, of, mine, fresh) (by_advert _)
      where
        by_advert : (b : Bool) → ((b || true) && true) ≡ true
        by_advert true = refl
        by_advert false = refl

    later : IsGot journal (Place.Switch s) body
    later = got setting journal s its.number its.boot _ body quiet causes there its.is boot matter

    heard_later : IsIn later.body (heard journal s)
    heard_later = let same : (own == later.boot) ≡ true = eq-eqb own later.boot (sym later.own) in
        heard_in_boot journal s later.number later.boot later.body traced later.is up later.own
        (rw ((says_boot later.body body own later.says of), same) refl) later.delivered

-- ---- at the controller

pub told_of : (setting : Setting) (journal : List Item) (s : ℕ) (body : Body)
    → IsQuietMachineJournal setting journal → JournalItemsHaveCauses (IsInOrder setting) [] journal → StepSwitchExists setting.net s
    → IsSent journal (message_to_controller body) → IsTrue (is_up journal s)
    → machine_speaking_in_body body ≡ Some (s, journal_boot_of journal s)
    → IsFalse (is_machine_ack_below_version (journal_current_mark journal) body) → WasHeard (journal_controller_heard journal) body
told_of setting journal s body quiet causes there sent up speaks new = record {
  body = later.body;
  is = (each_in _ y _ (caused_traced setting journal causes).each later.is).course later.delivered;
  says = later.says;
} where
  own : ℕ
  own = journal_boot_of journal s

  its : IsSentAs journal (message_to_controller body)
  its = sent_as journal (message_to_controller body) sent

  matter : (after : List Item) → IsTrue (machine_message_matters journal s (message_to_controller body) after)
  matter after =
      let mine : (own == own) ≡ true = eq-eqb own own refl in
      let fresh : is_machine_ack_below_version (journal_current_mark journal) body ≡ false = new in
      rw (up, speaks, eq-eqb s s refl, mine, fresh) refl

  later : IsGot journal Place.Controller body
  later = got _ journal s _ _ _ body quiet causes there its.is tt (λ after since. matter after)

  y : MachineSending
  y = record { number = later.number; message = message_to_controller later.body; boot = later.boot }
