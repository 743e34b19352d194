-- What was delivered within calm steps was delivered by one of them; so a switch answered it then.
use Rattle.std.proofs.Common.{[], ◌++◌, ◌+◌, ◌<◌, ◌==◌, ◌||◌, ◌∙◌, ◌∷◌, ◌≡◌, ◌≤◌, ◌⊎◌, Bool, IfSome, IsFalse, IsTrue, List, None, Some, ap, append-nil, append_assoc, arith, eq-eqb, eqb-true, false, inl, inr, refl, subst, sym, true, ℕ}
use Rattle.base.proofs.Exports.{IfSome_then, cases_lt}
use Rattle.update_machine.specs.Exports.{Body, Confirm, Deliver, JournalItemsHaveCauses, Install, Installed, Item, Message, OpenAt, Resend, Setting, Stamp, Stamped, Step, MachineStepOfRow, journal_after_steps, journal_body_to_switch, journal_receiver_boot_at, journal_boot_of, journal_controller_heard, machine_deliver_items, machine_delivery_items, is_deliverable, is_journal_body_for_boot, is_forgotten_in_journal, is_up, journal_items_then, journal_message_of, journal_next_message, next_waiting, nothing, piece, machine_send_items, machine_sendings, machine_sent_items_from, serves, journal_switch_items, machine_message_to_switch, was_delivered_in_journal}
use Rattle.ctrl_msg.specs.Exports.{message_to_controller}
use Rattle.convergence_laws.proofs.Exports.{AreTraced, IsIn, IsInOrder, IsPlain, IsSent, IsTraced, Plain, answer_of, caused_traced, deliverable_sent, delivered_more, delivery_is, delivery_plain, each_in, in_right, is_plain, next_grows, one_delivered, opens, sendings_more, sendings_on, sent_by, step_plain}
use Rattle.forwarding_laws.proofs.RecoveryCalmItems.{Calmly, IsCalmStep, Stays, calm_causes, calm_piece, calm_steps, calm_through, stays}
use Rattle.update_machine.proofs.Exports.{AreOf}
use Rattle.control_laws.proofs.Exports.{behind_piece, fact_on, serving_more}

-- ---- what was sent with a number from a bound on

pub record IsSince (since : ℕ) (journal : List Item) (message : Message) : Type 0 where
  pub number : ℕ
  pub boot : ℕ
  pub late : since ≤ number
  pub is : IsIn (record { number = number; message = message; boot = boot }) (machine_sendings journal)

pub since_on : (since : ℕ) (journal items : List Item) (message : Message)
    → IsSince since journal message → IsSince since (journal ++ items) message
since_on since journal items message sent = record {
  number = sent.number;
  boot = sent.boot;
  late = sent.late;
  is = sendings_on journal items _ sent.is;
}

pub since_calm : (setting : Setting) (since : ℕ) (before after : List Item) (message : Message)
    → Calmly setting before after → IsSince since before message → IsSince since after message
since_calm setting since before after message calm sent = rw calm.is
    (since_on since before calm.items message sent)

all_since : (since : ℕ) (journal : List Item) (n : ℕ) (messages : List Message) (message : Message)
    → since ≤ n → IsIn message messages → IsSince since (journal ++ machine_sent_items_from n messages) message
unfolding machine_sent_items_from
all_since since journal n [] message late is = absurd is
all_since since journal n (first ∷ messages) message late is =
    let next : Item = Item.Sent n first in
    let now : List Item = journal ++ next ∷ [] in
    subst (λ j. IsSince since j message)
    (append_assoc journal (next ∷ []) (machine_sent_items_from (n + 1) messages))
    (elim is [
      | inl here ↦ since_on since now (machine_sent_items_from (n + 1) messages) message
          (subst (IsSince since now) here (record {
            number = n;
            boot = journal_receiver_boot_at journal first.to;
            late = late;
            is = rw (sendings_more journal next)
                (in_right _ (machine_sendings journal) (sent_by journal next) (inl refl));
          }))
      | inr later ↦ all_since since now (n + 1) messages message (omega (arith, late)) later
    ])

-- each of the messages that are sent now
pub sends_since : (since : ℕ) (journal : List Item) (messages : List Message) (message : Message)
    → since ≤ journal_next_message journal → IsIn message messages
    → IsSince since (journal ++ machine_send_items journal messages) message
sends_since since journal messages message late is =
    all_since since journal (journal_next_message journal) messages message late is

-- ---- what was sent later, and what was sent earlier

-- a message of the journal before
pub record IsEarlier (before : List Item) (message : Message) : Type 0 where
  pub number : ℕ
  pub sent : journal_message_of before number ≡ Some message

pub since_or_earlier : (setting : Setting) (before journal : List Item) (message : Message)
    → Calmly setting before journal → AreTraced journal → IsSent journal message
    → IsSince (journal_next_message before) journal message ⊎ IsEarlier before message
since_or_earlier setting before journal message calm traced sent =
    elim (cases_lt sent.sending.number (journal_next_message before)) [
      | inl below ↦ inr (record {
        number = sent.sending.number;
        sent = sym ((stays setting before journal calm).messages sent.sending.number below)
            ∙ (each_in (IsTraced journal) sent.sending (machine_sendings journal) traced.each
            sent.is).message ∙ ap Some sent.of;
      })
      | inr above ↦ inl (record {
        number = sent.sending.number;
        boot = sent.sending.boot;
        late = above;
        is = subst (λ m. IsIn (record {
          number = sent.sending.number;
          message = m;
          boot = sent.sending.boot;
        }) (machine_sendings journal)) sent.of sent.is;
      })
    ]

-- ---- what was sent later was delivered

-- what is known of a journal that goes on calmly until nothing waits
pub record IsFlushed (setting : Setting) (before journal : List Item) : Type 0 where
  pub calm : Calmly setting before journal
  pub first : AreTraced before
  pub traced : AreTraced journal
  pub waiting : next_waiting journal ≡ None

pub since_delivered : (setting : Setting) (before journal : List Item)
    → IsFlushed setting before journal → (number boot : ℕ) (message : Message) → journal_next_message before
    ≤ number → IsIn (record { number = number; message = message; boot = boot }) (machine_sendings journal)
    → IsTrue (was_delivered_in_journal journal number)
since_delivered setting before journal are number boot message late is =
    one_delivered journal (record { number = number; message = message; boot = boot }) are.waiting
    ((stays setting before journal are.calm).forgotten number
    ∙ by_forgotten (is_forgotten_in_journal before number) refl)
    (each_in (IsTraced journal) _ (machine_sendings journal) are.traced.each is)
  where
    by_forgotten : (b : Bool) → is_forgotten_in_journal before number ≡ b
        → IsFalse (is_forgotten_in_journal before number)
    by_forgotten false e = e
    by_forgotten true e = absurd (omega (arith, are.first.forgotten number e, late))

-- so the controller heard what was sent to it
pub since_told : (setting : Setting) (before journal : List Item) → IsFlushed setting before journal
    → (body : Body) → IsSince (journal_next_message before) journal (message_to_controller body)
    → IsIn body (journal_controller_heard journal)
since_told setting before journal are body sent = (each_in (IsTraced journal)
    (record { number = sent.number; message = message_to_controller body; boot = sent.boot })
    (machine_sendings journal) are.traced.each sent.is).course (since_delivered setting before journal are
    sent.number sent.boot (message_to_controller body) sent.late sent.is)

-- ---- answered deliveries

-- ---- plain items deliver nothing

plain_undelivered : (journal items : List Item) (n : ℕ) → Plain journal items
    → was_delivered_in_journal (journal ++ items) n ≡ was_delivered_in_journal journal n
plain_undelivered journal items n plain =
    fact_on IsPlain (λ now. was_delivered_in_journal now n ≡ was_delivered_in_journal journal n)
    (λ now next is so_far. next_undelivered now next is ∙ so_far) journal items plain refl
  where
    next_undelivered : (now : List Item) (next : Item) → IsPlain now next
        → was_delivered_in_journal (now ++ next ∷ []) n ≡ was_delivered_in_journal now n
    next_undelivered now (Item.Delivered number) is = absurd is
    next_undelivered now next is = delivered_more now next n

-- ---- the step by which it was delivered

pub record IsDeliveredIn (setting : Setting) (before after : List Item) (n : ℕ) : Type 0 where
  pub at : List Item
  pub row : ℕ
  pub may : is_deliverable at n ≡ true
  pub first : Calmly setting before at
  pub rest : Calmly setting (at ++ piece setting at row (Deliver n)) after

-- a step of another kind, or of a message that can't be delivered, delivers nothing
piece_undelivered : (setting : Setting) (at : List Item) (row : ℕ) (step : Step) (n : ℕ)
    → is_plain step ≡ true → was_delivered_in_journal (at ++ piece setting at row step) n ≡ was_delivered_in_journal at n
piece_undelivered setting at row step n plain = behind_piece setting at row step
    (λ j. was_delivered_in_journal j n ≡ was_delivered_in_journal at n)
    (plain_undelivered (at ++ Item.Row row step ∷ []) _ n (step_plain setting at step
    (at ++ Item.Row row step ∷ []) plain) ∙ delivered_more at (Item.Row row step) n)

piece_delivers : (setting : Setting) (at : List Item) (row m n : ℕ)
    → was_delivered_in_journal (at ++ piece setting at row (Deliver m)) n ≡ true
    → was_delivered_in_journal at n ≡ false → (m ≡ n) × (is_deliverable at m ≡ true)
unfolding machine_deliver_items
piece_delivers setting at row m n = behind_piece setting at row (Deliver m)
    (λ j. was_delivered_in_journal j n ≡ true → was_delivered_in_journal at n ≡ false
    → (m ≡ n) × (is_deliverable at m ≡ true)) (by_test (is_deliverable at m) refl)
  where
    here : List Item
    here = at ++ Item.Row row (Deliver m) ∷ []

    now : List Item
    now = here ++ Item.Delivered m ∷ []

    by_number : (b : Bool) → (m == n) ≡ b → (b || was_delivered_in_journal here n) ≡ true
        → was_delivered_in_journal at n ≡ false → m ≡ n
    by_number true e is none = eqb-true m n e
    by_number false e is none =
        absurd (cc (sym is ∙ delivered_more at (Item.Row row (Deliver m)) n ∙ none))

    by_test : (b : Bool) → is_deliverable at m ≡ b → was_delivered_in_journal (here ++ elim b [
      | false ↦ nothing
      | true ↦ journal_items_then (Item.Delivered m ∷ []) (machine_delivery_items setting at m) here
    ]) n ≡ true → was_delivered_in_journal at n ≡ false → (m ≡ n) × (is_deliverable at m ≡ true)
    by_test false e is none = absurd (cc (sym is ∙ delivered_more here Item.Nothing n
        ∙ delivered_more at (Item.Row row (Deliver m)) n ∙ none))
    by_test true e is none = (
      by_number (m == n) refl
          (sym (delivered_more here (Item.Delivered m) n) ∙ sym (plain_undelivered now
          (machine_delivery_items setting at m now) n (delivery_plain setting at m now))
          ∙ ap (λ j. was_delivered_in_journal j n) (append_assoc here (Item.Delivered m ∷ []) _) ∙ is) none,
      e,
    )

pub find_delivery : (setting : Setting) (before : List Item) (steps : List MachineStepOfRow) (n : ℕ)
    → AreOf IsCalmStep steps → was_delivered_in_journal before n ≡ false
    → was_delivered_in_journal (journal_after_steps setting before steps) n ≡ true
    → IsDeliveredIn setting before (journal_after_steps setting before steps) n
find_delivery setting before [] n calm none is =
    let clash : true ≡ false = sym is ∙ none in absurd cc
find_delivery setting before (next ∷ steps) n calm none is = by_now (was_delivered_in_journal then n) refl
    (λ still. find_delivery setting then steps n calm.1 still is)
  where
    then : List Item
    then = before ++ piece setting before next.row next.step

    after : List Item
    after = journal_after_steps setting then steps

    here : (step : Step) → IsCalmStep step
        → was_delivered_in_journal (before ++ piece setting before next.row step) n ≡ true
        → Calmly setting (before ++ piece setting before next.row step) after
        → IsDeliveredIn setting before after n
    here (Deliver m) calm_step now rest =
        let found = piece_delivers setting before next.row m n now none in record {
          at = before;
          row = next.row;
          may = subst (λ k. is_deliverable before k ≡ true) found.0 found.1;
          first = record { items = []; is = sym (append-nil before); have = tt };
          rest = rw found.0 at rest;
        }
    here (Confirm s) calm_step now rest =
        absurd (cc (sym now ∙ piece_undelivered setting before next.row (Confirm s) n refl ∙ none))
    here (Resend s) calm_step now rest =
        absurd (cc (sym now ∙ piece_undelivered setting before next.row (Resend s) n refl ∙ none))
    here step calm_step now rest = absurd calm_step

    by_now : (b : Bool) → was_delivered_in_journal then n ≡ b
        → (was_delivered_in_journal then n ≡ false → IsDeliveredIn setting then after n)
        → IsDeliveredIn setting before after n
    by_now true e later = here next.step calm.0 e (calm_steps setting then steps calm.1)
    by_now false e later = let found = later e in record {
      at = found.at;
      row = found.row;
      may = found.may;
      first = calm_through setting before then found.at
          (calm_piece setting before next.row next.step calm.0) found.first;
      rest = found.rest;
    }

-- ---- what a switch answers then

-- it serves once it was told to open, and sent its acknowledgement
abbrev pub IsAnsweredSince : ℕ → List Item → ℕ → Body → Type 0
IsAnsweredSince since journal s (OpenAt boot version) = IsTrue (serves journal s)
IsAnsweredSince since journal s body =
    IfSome (answer_of s body) (λ answer. IsSince since journal (message_to_controller answer))

answered_calm : (setting : Setting) (since : ℕ) (before after : List Item) (s : ℕ) (body : Body)
    → Calmly setting before after → IsAnsweredSince since before s body
    → IsAnsweredSince since after s body
answered_calm setting since before after s (OpenAt boot version) calm is =
    (stays setting before after calm).serving s is
answered_calm setting since before after s body calm is = IfSome_then (answer_of s body) is
    (λ answer sent. since_calm setting since before after (message_to_controller answer) calm sent)

switch_since : (setting : Setting) (since : ℕ) (before : List Item) (s : ℕ) (body : Body)
    (now : List Item) → since ≤ journal_next_message now → serves now s ≡ serves before s
    → IsAnsweredSince since (now ++ journal_switch_items setting before s body now) s body
unfolding journal_switch_items
switch_since setting since before s (Install boot tables) now late same =
    sends_since since now (message_to_controller (Installed s boot tables.version) ∷ []) _ late (inl refl)
switch_since setting since before s (Stamp boot version touched) now late same =
    sends_since since now (message_to_controller (Stamped s boot version) ∷ []) _ late (inl refl)
switch_since setting since before s (OpenAt boot version) now late same =
    opens setting before s now same boot version
switch_since setting since before s _ now late same = tt

-- the message of this number, which was sent to a switch that is up in the boot that it is for
pub delivered_answered : (setting : Setting) (before after : List Item) (n s : ℕ) (body : Body)
    → JournalItemsHaveCauses (IsInOrder setting) [] before → IsDeliveredIn setting before after n
    → journal_message_of after n ≡ Some (machine_message_to_switch s body) → IsTrue (is_up after s)
    → IsTrue (is_journal_body_for_boot (journal_boot_of after s) body)
    → IsAnsweredSince (journal_next_message before) after s body
unfolding machine_deliver_items
delivered_answered setting before after n s body causes is sent up own =
    answered_calm setting (journal_next_message before) then after s body is.rest
    (behind_piece setting at is.row (Deliver n)
    (λ j. IsAnsweredSince (journal_next_message before) j s body) (by_test (is_deliverable at n) is.may))
  where
    at : List Item
    at = is.at

    then : List Item
    then = at ++ piece setting at is.row (Deliver n)

    here : List Item
    here = at ++ Item.Row is.row (Deliver n) ∷ []

    now : List Item
    now = here ++ Item.Delivered n ∷ []

    left : Stays at after
    left = stays setting at after
        (calm_through setting at then after (calm_piece setting at is.row (Deliver n) tt) is.rest)

    sent_at : journal_message_of at n ≡ Some (machine_message_to_switch s body)
    sent_at =
        let found = deliverable_sent at n is.may in
        let below : n < journal_next_message at =
        (caused_traced setting at (calm_causes setting before at causes is.first)).sent n found.0
        found.1 in
        sym (left.messages n below) ∙ sent

    said : journal_body_to_switch at s n ≡ Some body
    said =
        let sent_here = sent_at in
        let same : (s == s) ≡ true = eq-eqb s s refl in
        let for_it : is_journal_body_for_boot (journal_boot_of at s) body ≡ true =
        ap (λ b. is_journal_body_for_boot b body) (sym (left.boot s)) ∙ own in
        rw (sent_here, same, sym (left.up s) ∙ up, for_it, journal_body_to_switch) refl

    late : journal_next_message before ≤ journal_next_message now
    late = omega (
      arith,
      (stays setting before at is.first).numbers,
      next_grows at (Item.Row is.row (Deliver n) ∷ []),
      next_grows here (Item.Delivered n ∷ []),
    )

    by_test : (b : Bool) → b ≡ true → IsAnsweredSince (journal_next_message before) (here ++ elim b [
      | false ↦ nothing
      | true ↦ journal_items_then (Item.Delivered n ∷ []) (machine_delivery_items setting at n) here
    ]) s body
    by_test false e = absurd cc
    by_test true e = subst (λ j. IsAnsweredSince (journal_next_message before) j s body)
        (append_assoc here (Item.Delivered n ∷ []) (machine_delivery_items setting at n now))
        (subst (λ items. IsAnsweredSince (journal_next_message before) (now ++ items) s body)
        (sym (delivery_is setting at n now s body said))
        (switch_since setting (journal_next_message before) at s body now late
        (serving_more here (Item.Delivered n) s ∙ serving_more at (Item.Row is.row (Deliver n)) s)))
