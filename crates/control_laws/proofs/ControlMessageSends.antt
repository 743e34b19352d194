-- Messages that are sent one after another: each has its cause behind those before it.
use Rattle.std.proofs.Common.{[], ◌&&◌, ◌++◌, ◌+◌, ◌-◌, ◌<◌, ◌∙◌, ◌∷◌, ◌≡◌, ◌≤◌, ◌⊎◌, Bool, IsFalse, IsTrue, List, None, Option, Some, ap, arith, false, filter, flat_map, inl, inr, is_some, length, map, nat_lt, not, refl, subst, suc, sym, true, zero, ℕ, rules}
use Rattle.base.proofs.Exports.{AllByRecursion, each_always, each_flat_map, each_kept, each_map, each_passing, option_or, range_with_len}
pub use Rattle.policy_rules.proofs.PolicyRulesCallerLemmas.{each_weaker}
use Rattle.update_machine.specs.Exports.{Advert, Advertise, Body, CacheRule, Collect, JournalItemsHaveCauses, Hello, Install, Installed, Item, Message, OpenAt, Place, Setting, Stamp, Stamped, JournalSwitchKeeps, machine_advert_to, machine_collect_for, journal_controller_heard, machine_current_items, journal_current_mark, machine_first_open, has_acked, journal_held_adverts, machine_hello_of, journal_install_for, is_joining, is_member, is_over, is_up, journal_items_then, journal_known_boot, members, near, journal_next_current, journal_next_retired, journal_open_for, machine_open_items, machine_open_sent, open_version, journal_opened_at, machine_opening_switches, machine_resend_items, journal_resent_by_controller, journal_resent_by_switch, journal_resent_to_member, machine_retired_items, journal_retired_mark, machine_send_items, machine_sent_items_from, machine_settling, journal_stamp_for, machine_switches_in, machine_switches_of, journal_tables_at, machine_touched_by, journal_unacked_installs, journal_version_count, journal_versions_from_current}
use Rattle.switch_table.specs.Exports.{tables_of}
use Rattle.update_machine.proofs.Exports.{have_first, have_in_turn, policies_keep, switch_keeps}
use Rattle.control_laws.specs.Exports.{HasControlItemCause, IsFirstControlOpening, IsControlForKnown, IsControlSenderPresent, IsRightControlMessageFrom, IsRightControlMessage, IsRightControlOpening, IsRightControlMessageTo}
use Rattle.control_laws.proofs.ControlFactsGrown.{Has, count_more, current_more, known_more, opened_at_more, opens_by, over_more, retired_more, told_more}
use Rattle.control_laws.proofs.ControlSwitchOpenings.{each_by_controller, each_to_member, later_versions, member_on, member_parts, resent_has}

-- ---- facts of each element

-- numbers of a range
pub each_range : (P : ℕ → Type 0) (low n : ℕ)
    → ((x : ℕ) → low ≤ x → x < low + n → P x) → AllByRecursion P (range_with_len low n)
each_range P low zero all = tt
each_range P low (suc n) all = (
  all low (omega arith) (omega arith),
  each_range P (low + 1) n (λ x above below. all x (omega (arith, above)) (omega (arith, below))),
)

-- the switches of the network, and those that pass a test
pub switches_there : (setting : Setting)
    → AllByRecursion (λ s. s < length setting.net.switches) (machine_switches_of setting)
switches_there setting = each_range _ 0 _ (λ s above below. omega (arith, below))

pub each_of_network : (P : ℕ → Type 0) (setting : Setting) (test : ℕ → Bool)
    → ((s : ℕ) → s < length setting.net.switches → IsTrue (test s) → P s)
    → AllByRecursion P (filter test (machine_switches_of setting))
each_of_network P setting test so = each_passing _ P test so _ (switches_there setting)

-- ---- messages that are told as the first of them is sent, each of which stays so behind others

pub sent_kept : (cause : List Item → Item → Type 0) (Tells : List Item → Message → Type 0)
    → ((before : List Item) (n : ℕ) (message : Message) → Tells before message
    → cause before (Item.Sent n message))
    → ((before : List Item) (n : ℕ) (message other : Message) → Tells before message
    → Tells before other → Tells (before ++ Item.Sent n message ∷ []) other)
    → (messages : List Message) (journal : List Item) (n : ℕ)
    → AllByRecursion (Tells journal) messages → JournalItemsHaveCauses cause journal (machine_sent_items_from n messages)
unfolding machine_sent_items_from
sent_kept cause Tells causes stays [] journal n all = tt
sent_kept cause Tells causes stays (message ∷ messages) journal n all = (
  causes journal n message all.0,
  sent_kept cause Tells causes stays messages (journal ++ Item.Sent n message ∷ []) (n + 1)
      (each_weaker (Tells journal) _ (λ other. stays journal n message other all.0) messages all.1),
)

pub sends_kept : (cause : List Item → Item → Type 0) (Tells : List Item → Message → Type 0)
    → ((before : List Item) (n : ℕ) (message : Message) → Tells before message
    → cause before (Item.Sent n message))
    → ((before : List Item) (n : ℕ) (message other : Message) → Tells before message
    → Tells before other → Tells (before ++ Item.Sent n message ∷ []) other)
    → (journal : List Item) (messages : List Message) → AllByRecursion (Tells journal) messages
    → JournalItemsHaveCauses cause journal (machine_send_items journal messages)
sends_kept cause Tells causes stays journal messages all = search (rules, sent_kept)

-- ---- what a message that is sent leaves as it was

-- what was acknowledged is as what was told
pub acked_same : (after before : List Item) (s v : ℕ) → journal_controller_heard after
    ≡ journal_controller_heard before → has_acked after s v ≡ has_acked before s v
unfolding has_acked journal_known_boot
acked_same after before s v same = rw same refl

keeps : (setting : Setting) (before : List Item) (n s : ℕ) (message : Message)
    → JournalSwitchKeeps setting s before (before ++ Item.Sent n message ∷ [])
keeps setting before n s message = search (rules, switch_keeps)

member_sent : (before : List Item) (s n : ℕ) (message : Message) → IsTrue (is_member before s)
    → IsTrue (is_member (before ++ Item.Sent n message ∷ []) s)
member_sent before s n message member = search (rules, member_on, known_more, over_more)

known_sent : (before : List Item) (s boot n : ℕ) (message : Message) → IsControlForKnown before s boot
    → IsControlForKnown (before ++ Item.Sent n message ∷ []) s boot
known_sent before s boot n message to = search (rules, known_more, over_more)

present_sent : (setting : Setting) (before : List Item) (s boot n : ℕ) (message : Message)
    → IsControlSenderPresent before s boot → IsControlSenderPresent (before ++ Item.Sent n message ∷ []) s boot
present_sent setting before s boot n message present =
    let same = keeps setting before n s message in
    record { up = rw same.up present.up; own = rw same.boot present.own }

from_sent : (setting : Setting) (before : List Item) (n : ℕ) (message : Message) (body : Body)
    → IsRightControlMessageFrom before body → IsRightControlMessageFrom (before ++ Item.Sent n message ∷ []) body
from_sent setting before n message (Hello s boot) right = search (rules, present_sent)
from_sent setting before n message (Installed s boot version) right = record {
  present = present_sent setting before s boot n message right.present;
  heard = rw (keeps setting before n s message).heard right.heard;
}
from_sent setting before n message (Stamped s boot version) right = record {
  present = present_sent setting before s boot n message right.present;
  stamps = rw (keeps setting before n s message).stamp right.stamps;
}
from_sent setting before n message _ right = absurd right

-- ---- openings that are sent one after another

opening_sent : (setting : Setting) (before : List Item) (s boot version n : ℕ) (message : Message)
    → IsRightControlMessage setting before message.to message.body → IsRightControlOpening before s boot version
    → IsRightControlOpening (before ++ Item.Sent n message ∷ []) s boot version
opening_sent setting before s boot version n message new right = record {
  to = known_sent before s boot n message right.to;
  opens = elim right.opens [
    | inl first ↦ by_opens first (machine_first_open (machine_open_sent s (journal_known_boot before s) next)) refl
    | inr same ↦ inr (after
        ∙ ap (λ o. option_or o (machine_first_open (machine_open_sent s (journal_known_boot before s) next))) same)
  ];
} where
  next : Item
  next = Item.Sent n message

  after : journal_opened_at (before ++ next ∷ []) s
      ≡ option_or (journal_opened_at before s) (machine_first_open (machine_open_sent s (journal_known_boot before s) next))
  after = opened_at_more before next s (known_more before next s)

  -- another one opens it at the current version too
  at_current : (w : ℕ) → IsFirstControlOpening before s version
      → IsRightControlOpening before s (journal_known_boot before s) w → w ≡ version
  at_current w first other = elim other.opens [
    | inl also ↦ also.current ∙ sym first.current
    | inr same ↦ let clash : None ≡ Some w = sym first.closed ∙ same in absurd cc
  ]

  by_opens : IsFirstControlOpening before s version → (o : Option ℕ)
      → machine_first_open (machine_open_sent s (journal_known_boot before s) next) ≡ o
      → IsFirstControlOpening (before ++ next ∷ []) s version
      ⊎ (journal_opened_at (before ++ next ∷ []) s ≡ Some version)
  by_opens first None e = inl (record {
    closed = cc (after, first.closed, e);
    current = rw (current_more before next) first.current;
    acked = rw (acked_same _ before s version (told_more before next)) first.acked;
  })
  by_opens first (Some w) e = inr (
      after
      ∙ ap (λ o. option_or o (machine_first_open (machine_open_sent s (journal_known_boot before s) next))) first.closed
      ∙ e ∙ ap Some (at_current w first (subst (HasControlItemCause setting before) (opens_by next s
      (journal_known_boot before s) w e).1 new)))

-- ---- each message stays right after others

tables_sent : (setting : Setting) (before : List Item) (n v s : ℕ) (message : Message)
    → journal_tables_at setting (before ++ Item.Sent n message ∷ []) v s ≡ journal_tables_at setting before v s
tables_sent setting before n v s message = ap (λ plan. tables_of plan v s)
    ((policies_keep before (Item.Sent n message ∷ []) (refl, tt)).plan setting v)

touched_sent : (setting : Setting) (before : List Item) (n v : ℕ) (message : Message)
    → machine_touched_by setting (before ++ Item.Sent n message ∷ []) v ≡ machine_touched_by setting before v
touched_sent setting before n v message = (policies_keep before _ (refl, tt)).touched setting v

to_sent : (setting : Setting) (before : List Item) (s n : ℕ) (message : Message) (body : Body)
    → IsRightControlMessage setting before message.to message.body → IsRightControlMessageTo setting before s body
    → IsRightControlMessageTo setting (before ++ Item.Sent n message ∷ []) s body
to_sent setting before s n message (Install boot tables) new right = record {
  to = known_sent before s boot n message right.to;
  version = right.version;
  which = elim right.which [
    | inl newest ↦ inl (newest ∙ sym (count_more before (Item.Sent n message)))
    | inr current ↦ inr (rw (current_more before (Item.Sent n message)) current)
  ];
  there = rw (count_more before (Item.Sent n message)) right.there;
  planned = right.planned ∙ sym (tables_sent setting before n right.version s message);
}
to_sent setting before s n message (OpenAt boot version) new right = search (rules, opening_sent)
to_sent setting before s n message (Stamp boot version touched) new right =
    search (rules, known_sent, member_sent, current_more, touched_sent)
to_sent setting before s n message (Collect boot version) new right =
    search (rules, known_sent, member_sent, retired_more)
to_sent setting before s n message (CacheRule version word rule action) new right = tt
to_sent setting before s n message (Advertise advert) new right = tt
to_sent setting before s n message _ new right = absurd right

abbrev pub IsRight : Setting → List Item → Message → Type 0
IsRight setting before message = IsRightControlMessage setting before message.to message.body

right_sent : (setting : Setting) (before : List Item) (n : ℕ) (message : Message) (to : Place)
    (body : Body) → IsRight setting before message → IsRightControlMessage setting before to body
    → IsRightControlMessage setting (before ++ Item.Sent n message ∷ []) to body
right_sent setting before n message (Place.Switch s) body new right = search (rules, to_sent)
right_sent setting before n message Place.Controller body new right = search (rules, from_sent)

-- messages that are right as the first of them is sent
pub sends_have : (setting : Setting) (journal : List Item) (messages : List Message)
    → AllByRecursion (IsRight setting journal) messages
    → JournalItemsHaveCauses (HasControlItemCause setting) journal (machine_send_items journal messages)
sends_have setting = search (rules, sends_kept, right_sent)

-- ---- what settling writes: whatever causes its marks and the messages behind them have, it has

-- a mark may rise, and after that each member of the network is told the right message
pub record Rises (cause : List Item → Item → Type 0) (Tells : List Item → Message → Type 0)
    (setting : Setting) (journal : List Item) (next : Item) (message : ℕ → Message) : Type 0 where
  pub may : cause journal next
  pub told : (s : ℕ) → s < length setting.net.switches
      → IsControlForKnown (journal ++ next ∷ []) s (journal_known_boot journal s)
      → IsTrue (is_member (journal ++ next ∷ []) s) → Tells (journal ++ next ∷ []) (message s)

-- both marks may rise so, and what each joining switch is told that acknowledged the current
-- version is right too; messages that are right have their causes one after another
pub record SettlingHas (cause : List Item → Item → Type 0) (Tells : List Item → Message → Type 0)
    (setting : Setting) : Type 0 where
  pub sends : (journal : List Item) (messages : List Message)
      → AllByRecursion (Tells journal) messages
      → JournalItemsHaveCauses cause journal (machine_send_items journal messages)
  pub rises : (journal : List Item) → let version = journal_next_current setting journal in
      IsTrue (nat_lt (journal_current_mark journal) version)
      → Rises cause Tells setting journal (Item.Current version) (journal_stamp_for setting journal version)
  pub opens : (journal : List Item) (s : ℕ) → s < length setting.net.switches
      → IsTrue (is_joining journal s && has_acked journal s (journal_current_mark journal))
      → Tells journal (journal_open_for journal (journal_current_mark journal) s)
  pub retires : (journal : List Item) → let version = journal_next_retired setting journal in
      IsTrue (nat_lt (journal_retired_mark journal) version)
      → Rises cause Tells setting journal (Item.Retired version) (machine_collect_for journal version)

-- so its three parts have them
pub record PartsHave (cause : List Item → Item → Type 0) (setting : Setting) : Type 0 where
  pub rises : (journal : List Item) → JournalItemsHaveCauses cause journal (machine_current_items setting journal)
  pub opens : (journal : List Item) → JournalItemsHaveCauses cause journal (machine_open_items setting journal)
  pub retires : (journal : List Item) → JournalItemsHaveCauses cause journal (machine_retired_items setting journal)

pub parts_have : (cause : List Item → Item → Type 0) (Tells : List Item → Message → Type 0)
    (setting : Setting) → SettlingHas cause Tells setting → PartsHave cause setting
unfolding machine_current_items machine_open_items machine_retired_items
parts_have cause Tells setting has = record {
  rises = λ journal. let version = journal_next_current setting journal in
      rise_has journal (nat_lt (journal_current_mark journal) version) (Item.Current version)
      (journal_stamp_for setting journal version) (known_more journal (Item.Current version))
      (over_more journal (Item.Current version)) (has.rises journal);
  opens = λ journal. has.sends journal _ (each_map (Tells journal)
      (journal_open_for journal (journal_current_mark journal)) (machine_opening_switches setting journal)
      (each_of_network (λ s. Tells journal (journal_open_for journal (journal_current_mark journal) s)) setting _
      (has.opens journal)));
  retires = λ journal. let version = journal_next_retired setting journal in
      rise_has journal (nat_lt (journal_retired_mark journal) version) (Item.Retired version)
      (machine_collect_for journal version) (known_more journal (Item.Retired version))
      (over_more journal (Item.Retired version)) (has.retires journal);
} where
  -- a member stays one while a mark rises, in the boot that was known
  rise_has : (journal : List Item) (rises : Bool) (next : Item) (message : ℕ → Message)
      → ((s : ℕ) → journal_known_boot (journal ++ next ∷ []) s ≡ journal_known_boot journal s)
      → ((s : ℕ) → is_over (journal ++ next ∷ []) s ≡ is_over journal s)
      → (IsTrue rises → Rises cause Tells setting journal next message)
      → JournalItemsHaveCauses cause journal (elim rises [
        | false ↦ []
        | true ↦ journal_items_then (next ∷ []) (λ raised. machine_send_items raised
            (map message (members setting journal)))
            journal
      ])
  rise_has journal false next message known over may = tt
  rise_has journal true next message known over may =
      let raised : List Item = journal ++ next ∷ [] in
      have_first cause next (λ raised. machine_send_items raised (map message (members setting journal)))
      journal (may refl).may
      (has.sends raised _ (each_map (Tells raised) message _ (each_of_network _ setting _
      (λ s there member. let stays = member_on journal next s (known s) (over s) member in
      (may refl).told s there
      (record { known = sym (known s); not_over = (member_parts raised s stays).0 }) stays))))

pub settling_has : (cause : List Item → Item → Type 0) (setting : Setting) → PartsHave cause setting
    → (journal : List Item) → JournalItemsHaveCauses cause journal (machine_settling setting journal)
unfolding machine_settling
settling_has cause setting have = search (rules, have_in_turn)

-- ---- what is sent again has its causes

-- adverts may be sent at any time
adverts_right : (setting : Setting) (journal : List Item) (s : ℕ) (adverts : List Advert)
    → AllByRecursion (IsRight setting journal) (map (machine_advert_to s) adverts)
adverts_right setting journal s adverts = each_map _ _ _ (each_always _ (λ advert. tt) adverts)

resend_by_switch : (setting : Setting) (journal : List Item) (s : ℕ)
    → AllByRecursion (IsRight setting journal) (journal_resent_by_switch setting journal s)
resend_by_switch setting journal s = by_up (is_up journal s) refl where
  by_up : (up : Bool) → is_up journal s ≡ up → AllByRecursion (IsRight setting journal) (elim up [
    | false ↦ []
    | true ↦ machine_hello_of journal s
        ∷ flat_map (λ neighbour. map (machine_advert_to neighbour) (journal_held_adverts setting journal s))
        (machine_switches_in setting (near setting journal s))
  ])
  by_up false e = tt
  by_up true e = (
    record { up = e; own = refl },
    each_flat_map (IsRight setting journal) _
        (λ neighbour. adverts_right setting journal neighbour (journal_held_adverts setting journal s))
        (machine_switches_in setting (near setting journal s)),
  )

unacked_right : (setting : Setting) (journal : List Item) (s : ℕ) (versions : List ℕ)
    → AllByRecursion (λ version. IsRight setting journal (journal_install_for setting journal version s))
    versions
    → AllByRecursion (IsRight setting journal) (journal_unacked_installs setting journal s versions)
unacked_right setting journal s versions all = each_map (IsRight setting journal)
    (λ version. journal_install_for setting journal version s)
    (filter (λ version. not (has_acked journal s version)) versions)
    (each_kept _ (λ version. not (has_acked journal s version)) versions all)

tables_right : (setting : Setting) (journal : List Item) (s version : ℕ)
    → IsFalse (is_over journal s) → journal_current_mark journal ≤ version → version ≤ journal_version_count journal
    → IsRight setting journal (journal_install_for setting journal version s)
tables_right setting journal s version none above there = search rules

opening_is : (journal : List Item) (s : ℕ) → IsTrue (is_some (journal_opened_at journal s))
    → journal_opened_at journal s ≡ Some (open_version journal s)
opening_is journal s opened = search rules

member_resent : (setting : Setting) (journal : List Item) (s : ℕ) → IsTrue (is_member journal s)
    → AllByRecursion (IsRight setting journal) (journal_resent_to_member setting journal s)
member_resent setting journal s member =
    let parts = member_parts journal s member in
    let known : IsControlForKnown journal s (journal_known_boot journal s) =
    record { known = refl; not_over = parts.0 } in
    each_to_member (IsRight setting journal) setting journal s
    (record { to = known; opens = inr (opening_is journal s parts.1) })
    (unacked_right setting journal s (later_versions journal) (each_range _
    (journal_current_mark journal + 1) (journal_version_count journal - journal_current_mark journal) (λ version above
    below. tables_right setting journal s version parts.0 (omega arith) (omega arith))))
    (record { to = known; member = member; current = refl; says = refl })
    (λ some. record { to = known; member = member; retired = refl })

resend_by_controller : (setting : Setting) (journal : List Item) (s : ℕ)
    → AllByRecursion (IsRight setting journal) (journal_resent_by_controller setting journal s)
resend_by_controller setting journal s = each_by_controller (IsRight setting journal) setting
    journal s (λ none member. member_resent setting journal s member)
    (λ none. unacked_right setting journal s (journal_versions_from_current journal) (each_range _
    (journal_current_mark journal) (journal_version_count journal + 1 - journal_current_mark journal) (λ version above
    below. tables_right setting journal s version none above (omega (arith, above, below)))))

pub resend_have : (setting : Setting) (s : ℕ) (journal : List Item)
    → Has setting journal (machine_resend_items setting s journal)
resend_have setting s journal = resent_has _ _ setting s journal tt (sends_have setting journal)
    (resend_by_switch setting journal s) (resend_by_controller setting journal s)
