-- What became of each message that was sent: it has the number under which it was sent, and if it
-- was delivered to a switch in the boot in which it was sent, or to the controller, it was heard.
use Rattle.std.proofs.Common.{[], if◌then◌else◌, ◌++◌, ◌+◌, ◌<◌, ◌==◌, ◌||◌, ◌∙◌, ◌∷◌, ◌≡◌, ◌≤◌, ◌⊎◌, Bool, IfSome, IsFalse, IsTrue, List, None, Option, Some, ap, append-nil, append_assoc, arith, eq-eqb, eqb-true, false, inl, inr, refl, subst, sym, true, ℕ, rules}
use Rattle.base.proofs.Exports.{AllByRecursion, IfSome_then, each_append, nat_tests, option_map_or, ⊤}
use Rattle.ctrl_msg.specs.Exports.{body_boot, message_to_controller}
use Rattle.update_machine.specs.Exports.{Body, JournalItemsHaveCauses, Item, Message, Place, MachineSending, Setting, MachineTakesNextNumber, journal_body_to_controller, journal_body_to_switch, journal_receiver_boot_at, journal_boot_of, journal_controller_heard, heard, is_deliverable, is_machine_delivery_item, is_journal_body_for_boot, is_journal_forgetting, is_forgotten_in_journal, is_machine_sending_item, is_up, journal_message_of, journal_next_message, machine_send_items, machine_sendings, machine_sent_items_from, machine_message_to_switch, was_delivered_in_journal}
use Rattle.update_machine.proofs.Exports.{PiecesHave, count_of_append, folded_append, next_rises, piece_next, start_laws}
use Rattle.control_laws.specs.Exports.{HasControlItemCause}
use Rattle.control_laws.proofs.Exports.{AreKept, Both, GoesOn, IsKnown, boot_more, boot_rises, counted_more, each_weaker, fact_on, goes_on, have_both, heard_more, known_at_first, known_kept, message_more, some_more, told_more, turns}
use Rattle.control_laws.proofs.ControlPieceCauses as boots
use Rattle.convergence_laws.proofs.ConvergencePlainItems.{IsIn, in_left, in_right}
use Rattle.convergence_laws.proofs.ConvergencePlainItems as plain

-- ---- what one more item sends

-- the sending of an item
abbrev pub sent_by : List Item → Item → List MachineSending
sent_by before (Item.Sent number message) =
    record { number = number; message = message; boot = journal_receiver_boot_at before message.to } ∷ []
sent_by before _ = []

pub sendings_more : (before : List Item) (next : Item)
    → machine_sendings (before ++ next ∷ []) ≡ machine_sendings before ++ sent_by before next
unfolding machine_sendings
sendings_more before next = search (rules, folded_append)

-- ---- what was sent

-- a message was sent
pub record IsSent (journal : List Item) (message : Message) : Type 0 where
  pub sending : MachineSending
  pub is : IsIn sending (machine_sendings journal)
  pub of : sending.message ≡ message

pub sent_stays : (before : List Item) (next : Item) (message : Message) → IsSent before message
    → IsSent (before ++ next ∷ []) message
sent_stays before next message sent = record {
  sending = sent.sending;
  is = rw (sendings_more before next) (in_left sent.sending (machine_sendings before) _ sent.is);
  of = sent.of;
}

pub sent_on : (journal items : List Item) (message : Message) → IsSent journal message
    → IsSent (journal ++ items) message
sent_on journal [] message sent = subst (λ now. IsSent now message) (sym (append-nil journal)) sent
sent_on journal (next ∷ items) message sent = rw (append_assoc journal (next ∷ []) items) at
    (sent_on (journal ++ next ∷ []) items message (sent_stays journal next message sent))

pub sent_now : (before : List Item) (number : ℕ) (message : Message)
    → IsSent (before ++ Item.Sent number message ∷ []) message
sent_now before number message = record {
  sending = record { number = number; message = message; boot = journal_receiver_boot_at before message.to };
  is = rw (sendings_more before _) (in_right _ (machine_sendings before) _ (inl refl));
  of = refl;
}

-- each of these messages is sent
pub all_sent : (journal : List Item) (n : ℕ) (messages : List Message) (message : Message)
    → IsIn message messages → IsSent (journal ++ machine_sent_items_from n messages) message
unfolding machine_sent_items_from
all_sent journal n [] message is = absurd is
all_sent journal n (first ∷ messages) message is = let next : Item = Item.Sent n first in
    subst (λ now. IsSent now message)
    (append_assoc journal (next ∷ []) (machine_sent_items_from (n + 1) messages))
    (elim is [
      | inl here ↦ sent_on _ _ _ (subst (IsSent (journal ++ next ∷ [])) here (sent_now _ n first))
      | inr later ↦ all_sent (journal ++ next ∷ []) (n + 1) messages message later
    ])

pub sends_all : (journal : List Item) (messages : List Message) (message : Message)
    → IsIn message messages → IsSent (journal ++ machine_send_items journal messages) message
sends_all journal messages message is = all_sent journal (journal_next_message journal) messages message is

-- ---- what one more item makes of numbers and deliveries

next_more : (before : List Item) (next : Item) → journal_next_message (before ++ next ∷ [])
    ≡ (if is_machine_sending_item next then journal_next_message before + 1 else journal_next_message before)
unfolding journal_next_message
next_more before next = counted_more is_machine_sending_item before next

pub next_first : (journal : List Item) → 1 ≤ journal_next_message journal
unfolding journal_next_message
next_first journal = omega arith

pub delivered_more : (before : List Item) (next : Item) (n : ℕ)
    → was_delivered_in_journal (before ++ next ∷ []) n ≡ (is_machine_delivery_item n next || was_delivered_in_journal before n)
unfolding was_delivered_in_journal
delivered_more before next n = some_more (is_machine_delivery_item n) before next

pub forgotten_more : (before : List Item) (next : Item) (n : ℕ)
    → is_forgotten_in_journal (before ++ next ∷ []) n ≡ (is_journal_forgetting n next || is_forgotten_in_journal before n)
unfolding is_forgotten_in_journal
forgotten_more before next n = some_more (is_journal_forgetting n) before next

-- numbers of messages never fall
pub next_grows : (journal items : List Item) → journal_next_message journal ≤ journal_next_message (journal ++ items)
unfolding journal_next_message
next_grows journal items = omega (arith, count_of_append is_machine_sending_item journal items)

-- ---- what becomes of a message

-- the boot in which it was sent to the switch isn't above the switch's, nor is that of its body
-- above it; delivered in that boot it was heard
pub record SwitchCourse (journal : List Item) (s : ℕ) (x : MachineSending) : Type 0 where
  pub own : x.boot ≤ journal_boot_of journal s
  pub past : IfSome (body_boot x.message.body) (λ boot. boot ≤ x.boot)
  pub heard : IsTrue (is_up journal s) → x.boot ≡ journal_boot_of journal s
      → IsTrue (is_journal_body_for_boot x.boot x.message.body) → IsTrue (was_delivered_in_journal journal x.number)
      → IsIn x.message.body (heard journal s)

abbrev pub Course : List Item → Place → MachineSending → Type 0
Course journal (Place.Switch s) x = SwitchCourse journal s x
Course journal Place.Controller x =
    IsTrue (was_delivered_in_journal journal x.number) → IsIn x.message.body (journal_controller_heard journal)

pub record IsTraced (journal : List Item) (x : MachineSending) : Type 0 where
  pub first : 1 ≤ x.number
  pub number : x.number < journal_next_message journal
  pub message : journal_message_of journal x.number ≡ Some x.message
  pub course : Course journal x.message.to x

-- all messages are so, and none was delivered or forgotten that wasn't sent
pub record AreTraced (journal : List Item) : Type 0 where
  pub known : IsKnown journal
  pub sent : (n : ℕ) (message : Message) → journal_message_of journal n ≡ Some message
      → n < journal_next_message journal
  pub delivered : (n : ℕ) → IsTrue (was_delivered_in_journal journal n) → n < journal_next_message journal
  pub forgotten : (n : ℕ) → IsTrue (is_forgotten_in_journal journal n) → n < journal_next_message journal
  pub each : AllByRecursion (IsTraced journal) (machine_sendings journal)

-- ---- causes

-- what is delivered or forgotten was sent
abbrev pub IsSentFirst : List Item → Item → Type 0
IsSentFirst before (Item.Delivered number) =
    (message : Message) × (journal_message_of before number ≡ Some message)
IsSentFirst before (Item.Forgotten number) =
    (message : Message) × (journal_message_of before number ≡ Some message)
IsSentFirst before _ = ⊤

pub deliverable_sent : (journal : List Item) (number : ℕ) → is_deliverable journal number ≡ true
    → (message : Message) × (journal_message_of journal number ≡ Some message)
unfolding is_deliverable
deliverable_sent journal number is = search rules

plain_sent_first : (before : List Item) (next : Item) → plain.IsPlain before next
    → IsSentFirst before next
plain_sent_first before next is = search (rules, deliverable_sent)

sent_first_others : plain.HasOthers IsSentFirst
sent_first_others = record {
  aside = λ before next is. plain_sent_first before next (plain.aside_is before next is);
  delivered = λ journal number is. deliverable_sent journal number is;
  booted = λ journal s down. tt;
}

-- the causes of items: they take the next numbers, and what is delivered or forgotten was sent
abbrev pub IsInOrder : Setting → List Item → Item → Type 0
IsInOrder setting = Both (HasControlItemCause setting) (Both MachineTakesNextNumber IsSentFirst)

pub pieces_in_order : (setting : Setting) → PiecesHave (IsInOrder setting) setting
pieces_in_order setting journal row step = have_both (HasControlItemCause setting) _ journal _
    (boots.pieces_have setting journal row step) (have_both _ _ _ _ (piece_next _ journal row step)
    (plain.pieces_have IsSentFirst sent_first_others plain_sent_first setting journal row step))

-- ---- items keep it

number_on : (before : List Item) (next : Item) (x : MachineSending) → x.number < journal_next_message before
    → x.number < journal_next_message (before ++ next ∷ [])
number_on before next x below = omega (arith, below, next_rises before next)

message_on : (before : List Item) (next : Item) (x : MachineSending) → MachineTakesNextNumber before next
    → x.number < journal_next_message before → journal_message_of before x.number ≡ Some x.message
    → journal_message_of (before ++ next ∷ []) x.number ≡ Some x.message
message_on before (Item.Sent number message) x takes below is =
    let apart : (number == x.number) ≡ false = grind (arith, nat_tests) in
    rw (message_more before (Item.Sent number message) x.number, apart) is
message_on before next x takes below is = rw (message_more before next x.number) is

pub delivered_grows : (before : List Item) (number s : ℕ) (body : Body)
    → IsIn body (heard before s) → IsIn body (heard (before ++ Item.Delivered number ∷ []) s)
delivered_grows before number s body is = rw (heard_more before _ s) (by_said _) where
  by_said : (o : Option Body)
      → IsIn body (option_map_or (λ b. heard before s ++ b ∷ []) o (heard before s))
  by_said None = is
  by_said (Some b) = in_left body (heard before s) (b ∷ []) is

heard_grows : (before : List Item) (next : Item) (s : ℕ) (body : Body) → IsFalse (turns s next)
    → IsIn body (heard before s) → IsIn body (heard (before ++ next ∷ []) s)
heard_grows before (Item.Down t) s body same is = grind (arith, heard_more)
heard_grows before (Item.Booted t boot) s body same is = grind (arith, heard_more)
heard_grows before (Item.Delivered number) s body same is = delivered_grows before number s body is
heard_grows before next s body same is = rw (heard_more before next s) is

-- what is delivered to the switch in its boot it hears
delivery_heard : (before : List Item) (s number : ℕ) (body : Body)
    → journal_message_of before number ≡ Some (machine_message_to_switch s body) → IsTrue (is_up before s)
    → IsTrue (is_journal_body_for_boot (journal_boot_of before s) body)
    → IsIn body (heard (before ++ Item.Delivered number ∷ []) s)
delivery_heard before s number body sent up own =
    let for_it : is_journal_body_for_boot (journal_boot_of before s) body ≡ true = own in
    let said : journal_body_to_switch before s number ≡ Some body =
    rw (sent, eq-eqb s s refl, up, for_it, journal_body_to_switch) refl in
    rw (heard_more before (Item.Delivered number) s, said)
    (in_right body (heard before s) (body ∷ []) (inl refl))

delivery_told : (before : List Item) (number : ℕ) (body : Body)
    → journal_message_of before number ≡ Some (message_to_controller body)
    → IsIn body (journal_controller_heard (before ++ Item.Delivered number ∷ []))
delivery_told before number body sent =
    let said : journal_body_to_controller before number ≡ Some body = rw (sent, journal_body_to_controller) refl in
    rw (told_more before (Item.Delivered number), said)
    (in_right body (journal_controller_heard before) (body ∷ []) (inl refl))

-- what was delivered behind a delivery is that, or was so before
delivered_either : (before : List Item) (number n : ℕ)
    → IsTrue (was_delivered_in_journal (before ++ Item.Delivered number ∷ []) n)
    → (number ≡ n) ⊎ IsTrue (was_delivered_in_journal before n)
delivered_either before number n delivered = search (rules, delivered_more, eqb-true)

switch_heard : (before : List Item) (next : Item) (s : ℕ) (x : MachineSending) (to : Message)
    → to ≡ machine_message_to_switch s x.message.body → journal_message_of before x.number ≡ Some to
    → GoesOn before next s x.boot → SwitchCourse before s x
    → IsTrue (is_journal_body_for_boot x.boot x.message.body)
    → IsTrue (was_delivered_in_journal (before ++ next ∷ []) x.number)
    → IsIn x.message.body (heard (before ++ next ∷ []) s)
switch_heard before (Item.Delivered number) s x to is sent on course own delivered =
    elim (delivered_either before number x.number delivered) [
      | inl same ↦ delivery_heard before s number x.message.body
          (ap (journal_message_of before) same ∙ sent ∙ ap Some is) on.up (rw on.own at own)
      | inr was ↦ heard_grows before _ s x.message.body refl (course.heard on.up on.own own was)
    ]
switch_heard before next s x to is sent on course own delivered = heard_grows before next s _
    on.same (course.heard on.up on.own own (rw (delivered_more before next x.number) at delivered))

switch_on : (setting : Setting) (before : List Item) (next : Item) (s : ℕ) (x : MachineSending)
    → HasControlItemCause setting before next
    → journal_message_of before x.number ≡ Some (machine_message_to_switch s x.message.body)
    → SwitchCourse before s x → SwitchCourse (before ++ next ∷ []) s x
switch_on setting before next s x cause sent course = record {
  own = omega (arith, course.own, boot_rises setting before next s cause);
  past = course.past;
  heard = λ up own for delivered. switch_heard before next s x (machine_message_to_switch s x.message.body) refl
      sent (goes_on setting before next s x.boot cause course.own up own) course for delivered;
}

told_on : (before : List Item) (next : Item) (x : MachineSending)
    → journal_message_of before x.number ≡ Some (message_to_controller x.message.body)
    → Course before Place.Controller x → Course (before ++ next ∷ []) Place.Controller x
told_on before (Item.Delivered number) x sent course delivered =
    elim (delivered_either before number x.number delivered) [
      | inl same ↦ delivery_told before number x.message.body (ap (journal_message_of before) same ∙ sent)
      | inr was ↦ rw (told_more before _) (in_left x.message.body _ _ (course was))
    ]
told_on before next x sent course delivered =
    rw (told_more before next) (course (rw (delivered_more before next x.number) at delivered))

course_on : (setting : Setting) (before : List Item) (next : Item) (to : Place) (x : MachineSending)
    → HasControlItemCause setting before next
    → journal_message_of before x.number ≡ Some (record { to = to; body = x.message.body })
    → Course before to x → Course (before ++ next ∷ []) to x
course_on setting before next (Place.Switch s) x cause sent course =
    switch_on setting before next s x cause sent course
course_on setting before next Place.Controller x cause sent course = told_on _ next x sent course

traced_on : (setting : Setting) (before : List Item) (next : Item) (x : MachineSending)
    → IsInOrder setting before next → IsTraced before x → IsTraced (before ++ next ∷ []) x
traced_on setting before next x cause traced = record {
  first = traced.first;
  number = number_on before next x traced.number;
  message = message_on before next x cause.second.first traced.number traced.message;
  course = course_on setting before next x.message.to x cause.first traced.message traced.course;
}

-- ---- a new message

new_course : (before : List Item) (number : ℕ) (to : Place) (body : Body)
    → IsKnown (before ++ Item.Sent number (record { to = to; body = body }) ∷ [])
    → IsFalse (was_delivered_in_journal before number)
    → Course (before ++ Item.Sent number (record { to = to; body = body }) ∷ []) to (record {
      number = number;
      message = record { to = to; body = body };
      boot = journal_receiver_boot_at before to;
    })
new_course before number (Place.Switch s) body known fresh =
    let next : Item = Item.Sent number (machine_message_to_switch s body) in
    let same : journal_boot_of (before ++ next ∷ []) s ≡ journal_boot_of before s = boot_more before next s in
    record {
      own = omega (arith, same);
      past = IfSome_then (body_boot body) (known.boots.sent number (machine_message_to_switch s body)
          (rw (message_more before next number, eq-eqb number number refl) refl))
          (λ boot past. omega (arith, past, known.boots.known s, same));
      heard = λ up own for delivered.
          let no = sym fresh ∙ (rw (delivered_more before next number) at delivered) in absurd cc;
    }
new_course before number Place.Controller body known fresh = λ delivered. let next : Item =
    Item.Sent number (message_to_controller body) in
    absurd (cc (sym fresh ∙ (rw (delivered_more before next number) at delivered)))

new_traced : (setting : Setting) (before : List Item) (number : ℕ) (message : Message)
    → IsInOrder setting before (Item.Sent number message) → AreTraced before
    → IsTraced (before ++ Item.Sent number message ∷ [])
    (record { number = number; message = message; boot = journal_receiver_boot_at before message.to })
new_traced setting before number message cause are =
    let next : Item = Item.Sent number message in
    let takes : number ≡ journal_next_message before = cause.second.first in record {
      first = omega (arith, takes, next_first before);
      number = rw (next_more before next) (omega (arith, takes));
      message = rw (message_more before next number, eq-eqb number number refl) refl;
      course = new_course before number _ _ (known_kept setting before next cause.first are.known)
          (by_test (was_delivered_in_journal before number) refl);
    }
  where
    by_test : (b : Bool) → was_delivered_in_journal before number ≡ b → IsFalse (was_delivered_in_journal before number)
    by_test false e = e
    by_test true e = absurd (omega (arith, are.delivered number e, cause.second.first))

sent_traced : (setting : Setting) (before : List Item) (next : Item) → IsInOrder setting before next
    → AreTraced before → AllByRecursion (IsTraced (before ++ next ∷ [])) (sent_by before next)
sent_traced setting before next cause are = search (rules, new_traced)

-- ---- together

sent_below : (setting : Setting) (before : List Item) (next : Item) (n : ℕ) (message : Message)
    → IsInOrder setting before next → AreTraced before
    → journal_message_of (before ++ next ∷ []) n ≡ Some message → n < journal_next_message (before ++ next ∷ [])
sent_below setting before (Item.Sent number sent) n message cause are is =
    by_test (number == n) refl
  where
    next : Item
    next = Item.Sent number sent

    by_test : (b : Bool) → (number == n) ≡ b → n < journal_next_message (before ++ next ∷ [])
    by_test true e = rw next_more (omega (arith, cause.second.first, eqb-true))
    by_test false e = let was = rw (message_more before next n, e) at is in
        omega (arith, are.sent n message was, next_rises before next)
sent_below setting before next n message cause are is =
    let was : journal_message_of before n ≡ Some message = rw (message_more before next n) at is in
    omega (arith, are.sent n message was, next_rises before next)

delivered_below : (setting : Setting) (before : List Item) (next : Item) (n : ℕ)
    → IsInOrder setting before next → AreTraced before
    → IsTrue (was_delivered_in_journal (before ++ next ∷ []) n) → n < journal_next_message (before ++ next ∷ [])
delivered_below setting before next n cause are is =
    search (rules, delivered_more, eqb-true, next_rises)

forgotten_below : (setting : Setting) (before : List Item) (next : Item) (n : ℕ)
    → IsInOrder setting before next → AreTraced before
    → IsTrue (is_forgotten_in_journal (before ++ next ∷ []) n) → n < journal_next_message (before ++ next ∷ [])
forgotten_below setting before next n cause are is =
    search (rules, forgotten_more, eqb-true, next_rises)

pub traced_kept : (setting : Setting) → AreKept (IsInOrder setting) AreTraced
traced_kept setting before next cause are = record {
  known = known_kept setting before next cause.first are.known;
  sent = λ n message is. sent_below setting before next n message cause are is;
  delivered = λ n is. delivered_below setting before next n cause are is;
  forgotten = λ n is. forgotten_below setting before next n cause are is;
  each = rw (sendings_more before next)
      (each_append _ (machine_sendings before) (sent_by before next) (each_weaker (IsTraced before)
      (IsTraced (before ++ next ∷ [])) (λ x traced. traced_on setting before next x cause traced)
      (machine_sendings before) are.each) (sent_traced setting before next cause are));
}

pub traced_at_first : AreTraced []
unfolding was_delivered_in_journal is_forgotten_in_journal
traced_at_first = search (rules, known_at_first, start_laws)

pub caused_traced : (setting : Setting) (journal : List Item)
    → JournalItemsHaveCauses (IsInOrder setting) [] journal → AreTraced journal
caused_traced setting journal have = fact_on _ _ (traced_kept setting) [] _ have traced_at_first
