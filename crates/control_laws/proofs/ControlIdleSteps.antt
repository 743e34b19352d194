-- The steps that leave all that the controller knows as it was.
use Rattle.std.proofs.Common.{[], ◌++◌, ◌+◌, ◌==◌, ◌∙◌, ◌∷◌, ◌≡◌, Bool, IsFalse, IsTrue, List, None, Option, Some, ap, arith, eqb-true, false, filter, if◌then◌else◌, is_some, map, not, refl, sym, true, ℕ}
use Rattle.base.proofs.Exports.{⊤, AllByRecursion, each_always, each_flat_map, each_map, option_or}
use Rattle.update_machine.specs.Exports.{Advert, Body, Confirm, JournalControllerKeeps, Crash, Deliver, JournalItemsHaveCauses, Item, Message, OpenAt, Packet, Place, Resend, Restart, Setting, Step, Update, acked_stamp, machine_advert_to, journal_controller_heard, machine_deliver_items, machine_first_open, has_acked, journal_held_adverts, journal_install_for, is_member, is_journal_controller_message, is_over, journal_known_boot, journal_link_changes, near, journal_next_message, journal_next_packet, machine_open_sent, journal_opened_at, machine_advert_passed_on, piece, machine_resend_items, machine_restart_items, machine_send_items, machine_sent_items_from, machine_step_items, journal_switch_items, machine_switches_in, machine_message_to_switch, journal_unacked_installs, journal_versions_from_current}
use Rattle.update_machine.proofs.Exports.{controller_keeps}
use Rattle.control_laws.proofs.ControlFactsGrown.{count_more, current_more, fact_on, have_weaker, known_more, message_more, opened_at_more, over_more, piece_has, retired_more, told_more}
use Rattle.control_laws.proofs.ControlMessageSends.{acked_same}
use Rattle.control_laws.proofs.ControlStampingSwitches.{crash_has}
use Rattle.control_laws.proofs.ControlPieceCauses.{deliver_has}
use Rattle.control_laws.proofs.ControlSwitchOpenings.{each_by_controller, each_to_member, later_versions, member_parts, resent_has, still_opened}
use Rattle.control_laws.proofs.ControlCommands.{each_by_switch}
use Rattle.control_laws.proofs.ControlTrafficItems.{IsTraffic, Traffic, between_cases, links_traffic, packet_has, passed_traffic, step_traffic}
use Rattle.control_laws.proofs.ControlSaidToController.{switch_cases}
use Rattle.control_laws.specs.Exports.{control_asks_controller}

-- ---- items that leave all that the controller knows as it was

-- a message that opens no switch that wasn't opened in its known boot
abbrev pub OpensNone : List Item → Place → Body → Type 0
OpensNone before (Place.Switch s) (OpenAt boot version) = IsTrue (is_some (journal_opened_at before s))
OpensNone before Place.Controller (OpenAt boot version) = ⊥
OpensNone before to body = ⊤

abbrev pub LeavesController : List Item → Item → Type 0
LeavesController before (Item.Sent number message) = OpensNone before message.to message.body
LeavesController before (Item.Delivered number) = IsFalse (is_journal_controller_message before number)
LeavesController before (Item.OverNow s) = ⊥
LeavesController before (Item.Submitted file version) = ⊥
LeavesController before (Item.Current version) = ⊥
LeavesController before (Item.Retired version) = ⊥
LeavesController before _ = ⊤

-- ---- a switch that is opened once more

pub member_same : (before after : List Item) (s : ℕ) → is_over after s ≡ is_over before s
    → journal_opened_at after s ≡ journal_opened_at before s → is_member after s ≡ is_member before s
unfolding is_member
member_same before after s over opened = rw (over, opened) refl

pub stamp_same : (before after : List Item) (s : ℕ) → journal_controller_heard after
    ≡ journal_controller_heard before → journal_known_boot after s ≡ journal_known_boot before s
    → journal_opened_at after s ≡ journal_opened_at before s → acked_stamp after s ≡ acked_stamp before s
unfolding acked_stamp
stamp_same before after s heard known opened = rw (heard, known, opened) refl

-- the first opening of a switch in a boot counts
reopened : (before : List Item) (n s boot version : ℕ) → IsTrue (is_some (journal_opened_at before s))
    → (t : ℕ) → journal_opened_at (before ++ Item.Sent n (machine_message_to_switch s (OpenAt boot version)) ∷ []) t
    ≡ journal_opened_at before t
reopened before n s boot version opened t =
    opened_at_more before next t (known_more before next t) ∙ by_opened (journal_opened_at before t) refl
  where
    next : Item
    next = Item.Sent n (machine_message_to_switch s (OpenAt boot version))

    by_switch : (b : Bool) → (s == t) ≡ b → journal_opened_at before t ≡ None → machine_first_open (if b
        then (if boot == journal_known_boot before t then version ∷ [] else []) else []) ≡ None
    by_switch true e closed =
        let same : journal_opened_at before s ≡ None = ap (journal_opened_at before) (eqb-true s t e) ∙ closed in
        absurd (cc (sym (ap (λ o. is_some o) same) ∙ opened))
    by_switch false e closed = refl

    by_opened : (o : Option ℕ) → journal_opened_at before t ≡ o → option_or (journal_opened_at before t)
        (machine_first_open (machine_open_sent t (journal_known_boot before t) next)) ≡ journal_opened_at before t
    by_opened (Some w) e = rw e refl
    by_opened None e = rw e (by_switch (s == t) refl e)

reopening_keeps : (before : List Item) (n s boot version : ℕ)
    → IsTrue (is_some (journal_opened_at before s)) → JournalControllerKeeps before
    (before ++ Item.Sent n (machine_message_to_switch s (OpenAt boot version)) ∷ [])
reopening_keeps before n s boot version opened =
    let next : Item = Item.Sent n (machine_message_to_switch s (OpenAt boot version)) in
    let same = reopened before n s boot version opened in record {
      heard = told_more before next;
      known = λ t. known_more before next t;
      over = λ t. over_more before next t;
      opened = same;
      member = λ t. member_same before (before ++ next ∷ []) t (over_more before next t) (same t);
      acked = λ t v. acked_same (before ++ next ∷ []) before t v (told_more before next);
      stamp = λ t. stamp_same before (before ++ next ∷ []) t (told_more before next)
          (known_more before next t) (same t);
      current = current_more before next;
      retired = retired_more before next;
      count = count_more before next;
    }

-- ---- any items

sent_keeps : (before : List Item) (n : ℕ) (to : Place) (body : Body) → OpensNone before to body
    → JournalControllerKeeps before (before ++ Item.Sent n (record { to = to; body = body }) ∷ [])
sent_keeps before n (Place.Switch s) (OpenAt boot version) none =
    reopening_keeps before n s boot version none
sent_keeps before n Place.Controller (OpenAt boot version) none = absurd none
sent_keeps before n to body none =
    controller_keeps before (Item.Sent n (record { to = to; body = body }) ∷ []) (refl, tt)

keeps_one : (before : List Item) (next : Item) → LeavesController before next
    → JournalControllerKeeps before (before ++ next ∷ [])
keeps_one before (Item.Sent n message) leaves = sent_keeps before n message.to message.body leaves
keeps_one before (Item.Delivered number) leaves =
    controller_keeps before (Item.Delivered number ∷ []) (leaves, tt)
keeps_one before (Item.OverNow s) leaves = absurd leaves
keeps_one before (Item.Submitted file version) leaves = absurd leaves
keeps_one before (Item.Current version) leaves = absurd leaves
keeps_one before (Item.Retired version) leaves = absurd leaves
keeps_one before next leaves = controller_keeps before (next ∷ []) (refl, tt)

keeps_itself : (journal : List Item) → JournalControllerKeeps journal journal
keeps_itself journal = record {
  heard = refl;
  known = λ s. refl;
  over = λ s. refl;
  opened = λ s. refl;
  member = λ s. refl;
  acked = λ s v. refl;
  stamp = λ s. refl;
  current = refl;
  retired = refl;
  count = refl;
}

keeps_on : (one two three : List Item) → JournalControllerKeeps one two → JournalControllerKeeps two three
    → JournalControllerKeeps one three
keeps_on one two three first later = record {
  heard = later.heard ∙ first.heard;
  known = λ s. later.known s ∙ first.known s;
  over = λ s. later.over s ∙ first.over s;
  opened = λ s. later.opened s ∙ first.opened s;
  member = λ s. later.member s ∙ first.member s;
  acked = λ s v. later.acked s v ∙ first.acked s v;
  stamp = λ s. later.stamp s ∙ first.stamp s;
  current = later.current ∙ first.current;
  retired = later.retired ∙ first.retired;
  count = later.count ∙ first.count;
}

-- so many items leave it too
pub leaves_keep : (before items : List Item) → JournalItemsHaveCauses LeavesController before items
    → JournalControllerKeeps before (before ++ items)
leaves_keep before items have = fact_on LeavesController (JournalControllerKeeps before) (λ now next leaves
    keeps. keeps_on before now (now ++ next ∷ []) keeps (keeps_one now next leaves)) before items
    have (keeps_itself before)

-- ---- other steps

abbrev pub Leave : List Item → List Item → Type 0
Leave journal items = JournalItemsHaveCauses LeavesController journal items

-- ---- traffic

traffic_leaves : (setting : Setting) (before : List Item) (next : Item)
    → IsTraffic setting before next → LeavesController before next
traffic_leaves setting before (Item.Sent number message) is = between_cases setting before
    (OpensNone before) (λ s version word rule action there ingress. tt) (λ s advert there. tt)
    message.to message.body is
traffic_leaves setting before (Item.Delivered number) is = absurd is
traffic_leaves setting before (Item.OverNow s) is = absurd is
traffic_leaves setting before (Item.Submitted file version) is = absurd is
traffic_leaves setting before (Item.Current version) is = absurd is
traffic_leaves setting before (Item.Retired version) is = absurd is
traffic_leaves setting before next is = tt

traffic_leave : (setting : Setting) (journal items : List Item)
    → Traffic setting journal items → Leave journal items
traffic_leave setting journal items traffic =
    have_weaker (IsTraffic setting) LeavesController (traffic_leaves setting) journal items traffic

links_leave : (setting : Setting) (before journal : List Item)
    → Leave journal (journal_link_changes setting before journal)
links_leave setting before journal =
    traffic_leave setting journal _ (links_traffic setting before journal)

passed_leave : (setting : Setting) (journal : List Item) (s : ℕ) (advert : Advert)
    → Leave journal (machine_send_items journal (machine_advert_passed_on setting journal s advert))
passed_leave setting journal s advert =
    traffic_leave setting journal _ (passed_traffic setting journal s advert)

-- ---- messages

abbrev pub ReopensAlone : List Item → Message → Type 0
ReopensAlone journal message = OpensNone journal message.to message.body

opens_none_sent : (before : List Item) (n : ℕ) (message : Message) (to : Place) (body : Body)
    → OpensNone before to body → OpensNone (before ++ Item.Sent n message ∷ []) to body
opens_none_sent before n message (Place.Switch s) (OpenAt boot version) none =
    still_opened before (Item.Sent n message) s (known_more before (Item.Sent n message) s) none
opens_none_sent before n message Place.Controller (OpenAt boot version) none = none
opens_none_sent before n message to body none = tt

rest_reopen : (before : List Item) (n : ℕ) (message : Message) (messages : List Message)
    → AllByRecursion (ReopensAlone before) messages
    → AllByRecursion (ReopensAlone (before ++ Item.Sent n message ∷ [])) messages
rest_reopen before n message [] all = tt
rest_reopen before n message (next ∷ messages) all = (
  opens_none_sent before n message next.to next.body all.0,
  rest_reopen before n message messages all.1,
)

sent_leave : (messages : List Message) (journal : List Item) (n : ℕ)
    → AllByRecursion (ReopensAlone journal) messages → Leave journal (machine_sent_items_from n messages)
unfolding machine_sent_items_from
sent_leave [] journal n all = tt
sent_leave (message ∷ messages) journal n all = (
  all.0,
  sent_leave messages (journal ++ Item.Sent n message ∷ []) (n + 1)
      (rest_reopen journal n message messages all.1),
)

pub sends_leave : (journal : List Item) (messages : List Message)
    → AllByRecursion (ReopensAlone journal) messages → Leave journal (machine_send_items journal messages)
sends_leave journal messages all = sent_leave messages journal (journal_next_message journal) all

-- ---- at a switch

switch_leaves : (setting : Setting) (before : List Item) (s : ℕ) (body : Body) (now : List Item)
    → Leave now (journal_switch_items setting before s body now)
switch_leaves setting before s body now = switch_cases (Leave now) setting before s body now
    (λ boot version. sends_leave now _ (tt, tt)) (λ boot version. sends_leave now _ (tt, tt))
    (λ boot version is. grind (arith, links_leave))
    (λ advert is news. passed_leave setting now s advert) tt

deliver_leaves : (setting : Setting) (before : List Item) (row number : ℕ) (step : Step)
    → IsFalse (is_journal_controller_message before number)
    → let here = before ++ Item.Row row step ∷ [] in
    Leave here (machine_deliver_items setting before number here)
deliver_leaves setting before row number step none = deliver_has LeavesController setting before
    number _ tt (rw (message_more before (Item.Row row step) number) none)
    (λ body sent. let clash : true ≡ false = rw sent at none in absurd cc)
    (λ s body said. switch_leaves setting before s body _)

-- ---- a switch that begins a boot

restart_leaves : (s : ℕ) (journal : List Item) → Leave journal (machine_restart_items s journal)
unfolding machine_restart_items machine_sent_items_from
restart_leaves s journal = grind arith

-- ---- what is sent again

pub installs_reopen : (setting : Setting) (journal : List Item) (s : ℕ) (versions : List ℕ)
    → AllByRecursion (ReopensAlone journal)
    (map (λ version. journal_install_for setting journal version s) versions)
installs_reopen setting journal s versions =
    each_map (ReopensAlone journal) (λ version. journal_install_for setting journal version s) versions
    (each_always (λ version. ReopensAlone journal (journal_install_for setting journal version s)) (λ version. tt)
    versions)

unacked_reopen : (setting : Setting) (journal : List Item) (s : ℕ) (versions : List ℕ)
    → AllByRecursion (ReopensAlone journal) (journal_unacked_installs setting journal s versions)
unacked_reopen setting journal s versions = installs_reopen setting journal s
    (filter (λ version. not (has_acked journal s version)) versions)

resend_leaves : (setting : Setting) (s : ℕ) (journal : List Item)
    → Leave journal (machine_resend_items setting s journal)
resend_leaves setting s journal = resent_has LeavesController (ReopensAlone journal) setting s
    journal tt (sends_leave journal) (each_by_switch (ReopensAlone journal) setting journal s
    (λ up. tt) (each_flat_map (ReopensAlone journal)
    (λ neighbour. map (machine_advert_to neighbour) (journal_held_adverts setting journal s)) (λ neighbour. each_map
    (ReopensAlone journal) (machine_advert_to neighbour) (journal_held_adverts setting journal s)
    (each_always (λ advert. ReopensAlone journal (machine_advert_to neighbour advert)) (λ advert. tt)
    (journal_held_adverts setting journal s))) (machine_switches_in setting (near setting journal s))))
    (each_by_controller (ReopensAlone journal) setting journal s (λ none member. each_to_member
    (ReopensAlone journal) setting journal s (member_parts journal s member).1
    (unacked_reopen setting journal s (later_versions journal)) tt (λ some. tt))
    (λ none. unacked_reopen setting journal s (journal_versions_from_current journal)))

-- ---- steps

step_leaves : (setting : Setting) (before : List Item) (row : ℕ) (step : Step)
    → IsFalse (control_asks_controller before step) → let here = before ++ Item.Row row step ∷ [] in
    Leave here (machine_step_items setting before step here)
step_leaves setting before row (Packet s header) none =
    packet_has setting LeavesController (traffic_leaves setting) (journal_next_packet before) s header _ tt
step_leaves setting before row (Deliver message) none =
    deliver_leaves setting before row message (Deliver message) none
step_leaves setting before row (Update file) none = absurd cc
step_leaves setting before row (Crash s) none =
    crash_has setting LeavesController (traffic_leaves setting) before s _ (λ up. tt)
step_leaves setting before row (Restart s) none = restart_leaves s _
step_leaves setting before row (Confirm s) none = absurd cc
step_leaves setting before row (Resend s) none = resend_leaves setting s _
step_leaves setting before row step none =
    traffic_leave setting _ _ (step_traffic setting before step _ tt)

pub others_keep : (setting : Setting) (journal : List Item) (row : ℕ) (step : Step)
    → IsFalse (control_asks_controller journal step)
    → JournalControllerKeeps journal (journal ++ piece setting journal row step)
others_keep setting journal row step none = leaves_keep journal _ (piece_has LeavesController
    setting journal row step tt (step_leaves setting journal row step none))
