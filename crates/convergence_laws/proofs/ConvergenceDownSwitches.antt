-- Of a switch that is down, for which the controller doesn't wait though it doesn't count it as
-- over, nothing is known in its known boot; and where openings and acknowledgements come from.
use Rattle.std.proofs.Common.{[], if◌then◌else◌, ◌++◌, ◌==◌, ◌∙◌, ◌∷◌, ◌≡◌, ◌≤◌, ◌⊎◌, Bool, IsFalse, IsTrue, List, None, Option, Some, ap, arith, eqb-true, false, filter_map, inl, inr, nat_eq, option_to_list, refl, subst, sym, true, unwrap_or, ℕ, rules}
use Rattle.base.proofs.Exports.{list_any, option_or}
use Rattle.update_machine.specs.Exports.{Body, Installed, Item, Message, OpenAt, MachineSending, Setting, journal_all_given, journal_body_to_controller, journal_boot_of, journal_controller_heard, machine_first_open, gives_journal_waited_for, has_acked, heard, machine_installed_version, machine_body_installs_version, is_over, is_up, is_waited_for_in_journal, journal_known_boot, journal_message_of, machine_open_sent, journal_opened_at, journal_raises_known_boot, serves, machine_message_to_switch}
use Rattle.ctrl_msg.specs.Exports.{message_to_controller}
use Rattle.update_machine.proofs.Exports.{start_laws}
use Rattle.control_laws.specs.Exports.{HasControlItemCause}
use Rattle.control_laws.proofs.Exports.{AreKept, FromCauses, IsKnown, StampsAreCurrent, boot_more, by_number, current_kept, from_causes, heard_known, installed_is, is_delivered, known_at_first, known_kept, known_more, known_rises, last_more, opened_at_more, opened_in, opened_more, opened_same, opens_by, over_more, raised_above, raised_none, said_sent, serving_more, told_more, unraised_same, up_more}
use Rattle.convergence_laws.proofs.ConvergencePlainItems.{IsIn, in_either}
use Rattle.convergence_laws.proofs.ConvergenceMessages.{IsSent, sendings_more, sent_by, sent_now, sent_stays}

-- ---- what was sent

-- a message is the one that the item sends, or was sent before
pub sent_either : (before : List Item) (next : Item) (message : Message)
    → IsSent (before ++ next ∷ []) message
    → IsSent before message ⊎ ((n : ℕ) × (next ≡ Item.Sent n message))
sent_either before next message sent = elim (in_either _ _ _ (rw (sendings_more _ _) at sent.is)) [
  | inl earlier ↦ inl (record { sending = sent.sending; is = earlier; of = sent.of })
  | inr now ↦ inr (by_item next now)
] where
  by_item : (next : Item) → IsIn sent.sending (sent_by before next)
      → (n : ℕ) × (next ≡ Item.Sent n message)
  by_item (Item.Sent n new) is = elim is [
    | inl same ↦ (n, ap (Item.Sent n) (ap (λ (x : MachineSending). x.message) same ∙ sent.of))
    | inr none ↦ absurd none
  ]
  by_item _ is = absurd is

-- ---- facts

-- the switch is down, isn't waited for, and isn't over
pub record IsIdle (journal : List Item) (s : ℕ) : Type 0 where
  pub down : IsFalse (is_up journal s)
  pub confirmed : IsFalse (is_waited_for_in_journal journal s)
  pub not_over : IsFalse (is_over journal s)

pub record AreRecorded (journal : List Item) : Type 0 where
  pub known : IsKnown journal
  pub current : StampsAreCurrent journal
  -- messages were sent, and so was what the controller heard
  pub messages : (n : ℕ) (message : Message) → journal_message_of journal n ≡ Some message
      → IsSent journal message
  pub told : (body : Body) → IsIn body (journal_controller_heard journal)
      → IsSent journal (message_to_controller body)
  -- a switch was opened by a message, except in its first boot
  pub openings : (s boot version : ℕ) → opened_in journal s boot ≡ Some version
      → (boot ≡ 1) ⊎ IsSent journal (machine_message_to_switch s (OpenAt boot version))
  -- it heard tables, and acknowledges them, in a boot that is known
  pub heard : (s version : ℕ) → IsTrue (list_any (machine_body_installs_version version) (heard journal s))
      → journal_boot_of journal s ≤ journal_known_boot journal s
  pub acks : (s boot version : ℕ) → IsSent journal (message_to_controller (Installed s boot version))
      → boot ≤ journal_known_boot journal s
  -- in its first boot it serves
  pub first : (s : ℕ) → IsTrue (is_up journal s) → journal_boot_of journal s ≡ 1 → IsTrue (serves journal s)
  pub boots : (s : ℕ) → 1 ≤ journal_boot_of journal s
  -- an idle switch was neither opened in its known boot, nor has it acknowledged any tables
  pub closed : (s : ℕ) → IsIdle journal s → journal_opened_at journal s ≡ None
  pub silent : (s version : ℕ) → IsIdle journal s
      → IsSent journal (message_to_controller (Installed s (journal_known_boot journal s) version)) → ⊥

-- ---- items keep them

messages_on : (setting : Setting) (before : List Item) (next : Item) → AreRecorded before
    → (n : ℕ) (message : Message) → journal_message_of (before ++ next ∷ []) n ≡ Some message
    → IsSent (before ++ next ∷ []) message
messages_on setting before next are n message is = elim (by_number before next n message is) [
  | inl new ↦ subst (λ x. IsSent (before ++ x ∷ []) message) (sym new) (sent_now before n message)
  | inr old ↦ sent_stays before next message (are.messages n message old)
]

told_on : (setting : Setting) (before : List Item) (next : Item) → AreRecorded before
    → (body : Body) → IsIn body (journal_controller_heard (before ++ next ∷ []))
    → IsSent (before ++ next ∷ []) (message_to_controller body)
told_on setting before (Item.Delivered number) are body is = by_said _ refl
    (rw (told_more before (Item.Delivered number)) at is)
  where
    next : Item
    next = Item.Delivered number

    old : IsIn body (journal_controller_heard before) → IsSent (before ++ next ∷ []) (message_to_controller body)
    old is = sent_stays before next (message_to_controller body) (are.told body is)

    by_said : (o : Option Body) → journal_body_to_controller before number ≡ o
        → IsIn body (journal_controller_heard before ++ option_to_list o)
        → IsSent (before ++ next ∷ []) (message_to_controller body)
    by_said o e is = elim (in_either body (journal_controller_heard before) (option_to_list o) is) [
      | inl earlier ↦ old earlier
      | inr now ↦ by_now o e now
    ] where
      by_now : (o : Option Body) → journal_body_to_controller before number ≡ o
          → IsIn body (option_to_list o) → IsSent (before ++ next ∷ []) (message_to_controller body)
      by_now None e is = absurd is
      by_now (Some said) e is = elim is [
        | inl same ↦ sent_stays before next (message_to_controller body) (are.messages number
            (message_to_controller body) (said_sent before number body (e ∙ ap Some same)))
        | inr none ↦ absurd none
      ]
told_on setting before next are body is = search (rules, sent_stays, told_more)

openings_on : (before : List Item) (next : Item) → AreRecorded before → (s boot version : ℕ)
    → opened_in (before ++ next ∷ []) s boot ≡ Some version
    → (boot ≡ 1) ⊎ IsSent (before ++ next ∷ []) (machine_message_to_switch s (OpenAt boot version))
openings_on before next are s boot version opened =
    by_opened (opened_in before s boot) refl (sym (opened_more before next s boot) ∙ opened)
  where
    by_opened : (o : Option ℕ) → opened_in before s boot ≡ o
        → option_or o (machine_first_open (machine_open_sent s boot next)) ≡ Some version
        → (boot ≡ 1) ⊎ IsSent (before ++ next ∷ []) (machine_message_to_switch s (OpenAt boot version))
    by_opened (Some w) e is = elim (are.openings s boot version (e ∙ is)) [
      | inl first ↦ inl first
      | inr sent ↦ inr (sent_stays before next _ sent)
    ]
    by_opened None e is =
        let new = opens_by next s boot version is in inr (rw new.1 (sent_now before new.0 _))

acks_on : (setting : Setting) (before : List Item) (next : Item)
    → HasControlItemCause setting before next → AreRecorded before → (s boot version : ℕ)
    → IsSent (before ++ next ∷ []) (message_to_controller (Installed s boot version))
    → boot ≤ journal_known_boot (before ++ next ∷ []) s
acks_on setting before next cause are s boot version sent = elim (sent_either before next _ sent) [
  | inl earlier ↦ omega (arith, known_rises before next s, are.acks s boot version earlier)
  | inr new ↦ let right = subst (HasControlItemCause setting before) new.1 cause in
      omega (arith, right.present.own, are.heard, known_rises)
]

-- ---- the first boot

boots_on : (setting : Setting) (before : List Item) (next : Item) → HasControlItemCause setting before next
    → AreRecorded before → (s : ℕ) → 1 ≤ journal_boot_of (before ++ next ∷ []) s
boots_on setting before next cause are s = search (rules, boot_more)

first_on : (setting : Setting) (before : List Item) (next : Item) → HasControlItemCause setting before next
    → AreRecorded before → (s : ℕ) → IsTrue (is_up (before ++ next ∷ []) s)
    → journal_boot_of (before ++ next ∷ []) s ≡ 1 → IsTrue (serves (before ++ next ∷ []) s)
first_on setting before next cause are s up first = search (rules, boot_more, serving_more, up_more)

-- ---- idle switches

pub waited_more : (before : List Item) (next : Item) (s : ℕ) → is_waited_for_in_journal (before ++ next ∷ []) s
    ≡ unwrap_or (gives_journal_waited_for s next) (is_waited_for_in_journal before s)
waited_more before next s = last_more (gives_journal_waited_for s) before next false

idle_was : (before : List Item) (next : Item) (s : ℕ) → IsFalse (is_delivered next)
    → IsIdle (before ++ next ∷ []) s → IsIdle before s
idle_was before (Item.Delivered number) s none idle = absurd cc
idle_was before (Item.Down t) s none idle =
    grind (arith, up_more, over_more, waited_more before (Item.Down t) s)
idle_was before (Item.Booted t boot) s none idle =
    grind (arith, up_more, over_more, waited_more before (Item.Booted t boot) s)
idle_was before (Item.OverNow t) s none idle =
    grind (arith, up_more, over_more, waited_more before (Item.OverNow t) s)
idle_was before next s none idle = record {
  down = rw (up_more before next s) at idle.down;
  confirmed = rw (waited_more before next s) at idle.confirmed;
  not_over = rw (over_more before next s) at idle.not_over;
}

-- a delivery that raises no known boot
idle_delivered : (before : List Item) (number s : ℕ) → journal_raises_known_boot before s number ≡ false
    → IsIdle (before ++ Item.Delivered number ∷ []) s → IsIdle before s
idle_delivered before number s e idle = let next : Item = Item.Delivered number in record {
  down = rw (up_more before next s) at idle.down;
  confirmed = rw (waited_more before next s) at idle.confirmed;
  not_over = cc (over_more before next s, e, idle.not_over);
}

-- what is among those that bodies tell was told
pub any_told : (reads : Body → Option ℕ) (v : ℕ) (bodies : List Body)
    → IsTrue (list_any (nat_eq v) (filter_map reads bodies))
    → (body : Body) × IsIn body bodies × (reads body ≡ Some v)
any_told reads v [] any = absurd cc
any_told reads v (body ∷ bodies) any = search (rules, eqb-true, any_told reads v bodies)

-- an acknowledgement that is known was sent, but of the first boot
acked_sent : (journal : List Item) (s version : ℕ)
    → ((body : Body) → IsIn body (journal_controller_heard journal) → IsSent journal (message_to_controller body))
    → journal_opened_at journal s ≡ None → IsTrue (has_acked journal s version)
    → IsSent journal (message_to_controller (Installed s (journal_known_boot journal s) version))
unfolding has_acked journal_opened_at
acked_sent journal s version told closed any = by_first (journal_known_boot journal s == 1) closed any where
  boot : ℕ
  boot = journal_known_boot journal s

  by_first : (b : Bool)
      → (if b then Some 1 else machine_first_open (journal_all_given (machine_open_sent s boot) journal)) ≡ None
      → IsTrue (list_any (nat_eq version) ((if b then 1 ∷ [] else [])
      ++ filter_map (machine_installed_version s boot) (journal_controller_heard journal)))
      → IsSent journal (message_to_controller (Installed s boot version))
  by_first true closed any = absurd cc
  by_first false closed any =
      let found = any_told (machine_installed_version s boot) version (journal_controller_heard journal) any in
      subst (λ body. IsSent journal (message_to_controller body))
      (installed_is s boot found.0 version found.2) (told found.0 found.1)

closed_on : (setting : Setting) (before : List Item) (next : Item)
    → HasControlItemCause setting before next → AreRecorded before → (s : ℕ)
    → IsIdle (before ++ next ∷ []) s → journal_opened_at (before ++ next ∷ []) s ≡ None
closed_on setting before (Item.Delivered number) cause are s idle =
    search (rules, raised_none, opened_same, unraised_same, idle_delivered)
closed_on setting before (Item.Sent n message) cause are s idle =
    opened_at_more before next s (known_more before next s)
    ∙ ap (λ o. option_or o (machine_first_open (machine_open_sent s boot next))) closed ∙ by_new _ refl
  where
    next : Item
    next = Item.Sent n message

    boot : ℕ
    boot = journal_known_boot before s

    was : IsIdle before s
    was = idle_was before next s refl idle

    closed : journal_opened_at before s ≡ None
    closed = are.closed s was

    by_new : (o : Option ℕ) → machine_first_open (machine_open_sent s boot next) ≡ o
        → machine_first_open (machine_open_sent s boot next) ≡ None
    by_new None e = e
    by_new (Some w) e =
        elim (subst (HasControlItemCause setting before) (opens_by next s boot w e).1 cause).opens [
          | inl first ↦ absurd (are.silent s w was (acked_sent _ s w are.told closed first.acked))
          | inr same ↦ let clash : None ≡ Some w = sym closed ∙ same in absurd cc
        ]
closed_on setting before next cause are s idle = search (rules, opened_same, known_more, idle_was)

-- a switch that is down acknowledges nothing
silent_now : (setting : Setting) (before : List Item) (next : Item)
    → HasControlItemCause setting before next → AreRecorded before → (s version : ℕ)
    → journal_known_boot (before ++ next ∷ []) s ≡ journal_known_boot before s → IsIdle before s
    → IsSent (before ++ next ∷ [])
    (message_to_controller (Installed s (journal_known_boot (before ++ next ∷ []) s) version)) → ⊥
silent_now setting before next cause are s version known idle sent = elim (sent_either before next
    (message_to_controller (Installed s (journal_known_boot before s) version)) (rw known at sent)) [
      | inl earlier ↦ are.silent s version idle earlier
      | inr new ↦ let clash : false ≡ true = sym idle.down ∙ (rw new.1 at cause).present.up in
          absurd cc
    ]

silent_on : (setting : Setting) (before : List Item) (next : Item) → HasControlItemCause setting before
    next → AreRecorded before → (s version : ℕ) → IsIdle (before ++ next ∷ []) s → IsSent
    (before ++ next ∷ []) (message_to_controller (Installed s (journal_known_boot (before ++ next ∷ []) s) version))
    → ⊥
silent_on setting before (Item.Delivered number) cause are s version idle sent =
    by_raise (journal_raises_known_boot before s number) refl
  where
    next : Item
    next = Item.Delivered number

    no_delivery : (n : ℕ) → Item.Delivered number ≡ Item.Sent n (message_to_controller
        (Installed s (journal_known_boot (before ++ next ∷ []) s) version)) → ⊥
    no_delivery n is = absurd cc

    by_raise : (b : Bool) → journal_raises_known_boot before s number ≡ b → ⊥
    by_raise true e = elim (sent_either before next _ sent) [
      | inl earlier ↦ absurd (omega (arith, raised_above, are.acks))
      | inr new ↦ absurd (no_delivery new.0 new.1)
    ]
    by_raise false e = silent_now setting before next cause are s version
        (unraised_same before number s e) (idle_delivered before number s e idle) sent
silent_on setting before next cause are s version idle sent = silent_now setting before next cause
    are s version (known_more before next s) (idle_was before next s refl idle) sent

-- ---- together

recorded_kept : (setting : Setting) → AreKept (HasControlItemCause setting) AreRecorded
recorded_kept setting before next cause are = record {
  known = known_kept setting before next cause are.known;
  current = current_kept setting before next cause are.current;
  messages = λ n message is. messages_on setting before next are n message is;
  told = λ body is. told_on setting before next are body is;
  openings = λ s boot version is. openings_on before next are s boot version is;
  heard = heard_known before next are.known.boots are.heard;
  acks = λ s boot version sent. acks_on setting before next cause are s boot version sent;
  first = λ s up boot. first_on setting before next cause are s up boot;
  boots = λ s. boots_on setting before next cause are s;
  closed = λ s idle. closed_on setting before next cause are s idle;
  silent = λ s version idle sent. silent_on setting before next cause are s version idle sent;
}

none_sent : (message : Message) → IsSent [] message → ⊥
none_sent message sent = absurd (subst (λ xs. IsIn sent.sending xs) start_laws.sent sent.is)

not_idle : (s : ℕ) → IsIdle [] s → ⊥
not_idle s idle = let clash : true ≡ false = sym (start_laws.up s) ∙ idle.down in absurd cc

recorded_at_first : AreRecorded []
unfolding journal_controller_heard opened_in
recorded_at_first = search (rules, known_at_first, start_laws, none_sent, not_idle, eqb-true)

pub caused_recorded : FromCauses (λ setting. AreRecorded)
caused_recorded = from_causes (λ setting. AreRecorded) recorded_kept (λ setting. recorded_at_first)
