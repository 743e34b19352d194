-- After each step each member was opened at the current version, or was told to stamp with it.
use Rattle.std.proofs.Common.{[], ◌++◌, ◌+◌, ◌<◌, ◌∙◌, ◌∷◌, ◌≡◌, ◌⊎◌, Bool, IsTrue, List, Some, ap, append-nil, append_assoc, arith, false, inl, inr, length, map, nat_lt, refl, subst, sym, true, ℕ, rules}
use Rattle.base.proofs.Exports.{each_always, each_map, ⊤}
use Rattle.update_machine.specs.Exports.{Body, JournalControllerKeeps, JournalItemsHaveCauses, Hello, Item, Message, Setting, Step, machine_after_hello, machine_confirm_items, journal_controller_heard, machine_controller_items, machine_current_items, journal_current_mark, machine_deliver_items, machine_blocks_in_turn, is_member, is_journal_controller_message, is_over, journal_items_then, journal_known_boot, members, journal_next_current, nothing, machine_open_items, machine_open_sent, journal_opened_at, piece, machine_retired_items, machine_send_items, machine_settling, journal_stamp_for, machine_step_items, machine_switches_of, machine_touched_by, machine_update_items, journal_version_count}
use Rattle.update_machine.proofs.Exports.{have_first, have_in_turn}
use Rattle.control_laws.specs.Exports.{HasControlItemCause, control_asks_controller, control_stamp_message_to}
use Rattle.control_laws.proofs.Exports.{AreKept, Both, LeavesMember, ReopensAlone, StampsAreCurrent, behind_piece, confirm_cases, current_kept, current_more, deliver_cases, delivered_cases, fact_on, have_both, have_rest, in_two, known_more, leaves_keep, member_was, others_keep, over_cases, over_more, quiet_leaves, sends_any, sends_leave, sent_cases, settling_have, told_is, update_cases}
use Rattle.convergence_laws.proofs.ConvergenceTables.{all_keep, delivery_told, installs_keep}
use Rattle.convergence_laws.proofs.ConvergencePlainItems.{in_filter, in_map, in_range}
use Rattle.convergence_laws.proofs.ConvergenceMessages.{IsSent, sends_all, sent_on}
use Rattle.ternary.specs.Exports.{WordValue}

-- the switch was told to stamp with the version in this boot, whatever was touched
pub record IsStampSent (journal : List Item) (s boot version : ℕ) : Type 0 where
  pub touched : List WordValue
  pub sent : IsSent journal (control_stamp_message_to s boot version touched)

pub record HaveStamps (setting : Setting) (journal : List Item) : Type 0 where
  pub each : (s : ℕ) → s < length setting.net.switches → IsTrue (is_member journal s)
      → (journal_opened_at journal s ≡ Some (journal_current_mark journal))
      ⊎ IsStampSent journal s (journal_known_boot journal s) (journal_current_mark journal)

-- the same of one switch
abbrev IsStamped : List Item → ℕ → Type 0
IsStamped journal s = IsTrue (is_member journal s)
    → (journal_opened_at journal s ≡ Some (journal_current_mark journal))
    ⊎ IsStampSent journal s (journal_known_boot journal s) (journal_current_mark journal)

-- ---- where nothing changes for the switch

stamped_same : (before items : List Item) (s : ℕ) → journal_known_boot (before ++ items) s
    ≡ journal_known_boot before s → (IsTrue (is_member (before ++ items) s) → IsTrue (is_member before s))
    → journal_opened_at (before ++ items) s ≡ journal_opened_at before s
    → journal_current_mark (before ++ items) ≡ journal_current_mark before → IsStamped before s
    → IsStamped (before ++ items) s
stamped_same before items s known member opened current is now = elim (is (member now)) [
  | inl at_it ↦ inl (opened ∙ at_it ∙ ap Some (sym current))
  | inr told ↦ inr (rw known (subst (IsStampSent (before ++ items) s (journal_known_boot before s))
      (sym current) (record { touched = told.touched; sent = sent_on before items _ told.sent })))
]

stamped_leaving : (before : List Item) (next : Item) (s : ℕ) → LeavesMember before next s
    → journal_current_mark (before ++ next ∷ []) ≡ journal_current_mark before
    → IsStamped before s → IsStamped (before ++ next ∷ []) s
stamped_leaving before next s leaves current is = search (rules, stamped_same, member_was)

stamps_keep : (setting : Setting) (before items : List Item)
    → JournalControllerKeeps before (before ++ items) → HaveStamps setting before
    → HaveStamps setting (before ++ items)
stamps_keep setting before items keeps have = search (rules, stamped_same)

-- ---- items

-- one that is opened now is opened at the current version
stamped_sent : (setting : Setting) (before : List Item) (n s : ℕ) (message : Message)
    → HasControlItemCause setting before (Item.Sent n message) → IsStamped before s
    → IsStamped (before ++ Item.Sent n message ∷ []) s
stamped_sent setting before n s message cause is = let next : Item = Item.Sent n message in
    sent_cases setting before n s message cause (IsStamped (before ++ next ∷ []) s)
    (λ leaves. stamped_leaving before next s leaves (current_more before next) is)
    (λ none member. absurd (none member))
    (λ version first now member. inl (now ∙ ap Some (first.current ∙ sym (current_more _ next))))

-- an item that opens none, and ends and raises no boot
stamped_still : (before : List Item) (next : Item) (s : ℕ) → journal_known_boot (before ++ next ∷ []) s
    ≡ journal_known_boot before s → is_over (before ++ next ∷ []) s ≡ is_over before s
    → machine_open_sent s (journal_known_boot before s) next ≡ []
    → journal_current_mark (before ++ next ∷ []) ≡ journal_current_mark before → IsStamped before s
    → IsStamped (before ++ next ∷ []) s
stamped_still before next s known over none current is =
    stamped_leaving before next s (quiet_leaves before next s known over none) current is

stamped_over : (before : List Item) (t s : ℕ) → IsStamped before s
    → IsStamped (before ++ Item.OverNow t ∷ []) s
stamped_over before t s is = let next : Item = Item.OverNow t in
    over_cases before t s (IsStamped (before ++ next ∷ []) s)
    (λ leaves. stamped_leaving before next s leaves (current_more before next) is)
    (λ none member. absurd (none member))

stamped_delivered : (before : List Item) (number s : ℕ) → StampsAreCurrent before
    → IsStamped before s → IsStamped (before ++ Item.Delivered number ∷ []) s
stamped_delivered before number s are is = let next : Item = Item.Delivered number in
    delivered_cases before number s are (IsStamped (before ++ next ∷ []) s)
    (λ leaves. stamped_leaving before next s leaves (current_more before next) is)
    (λ none member. absurd (none member))

-- ---- settling

-- messages, and a rise of retired
abbrev IsLater : List Item → Item → Type 0
IsLater before (Item.Sent number message) = ⊤
IsLater before (Item.Retired version) = ⊤
IsLater before _ = ⊥

stamps_later : (setting : Setting)
    → AreKept (Both (HasControlItemCause setting) IsLater) (HaveStamps setting)
stamps_later setting before h2 both have =
    search (rules, stamped_sent, stamped_still, known_more, over_more, current_more)

later_sends : (journal : List Item) (messages : List Message)
    → JournalItemsHaveCauses IsLater journal (machine_send_items journal messages)
later_sends = sends_any IsLater (λ before n message. tt)

open_later : (setting : Setting) (journal : List Item)
    → JournalItemsHaveCauses IsLater journal (machine_open_items setting journal)
unfolding machine_open_items
open_later setting journal = later_sends journal _

retired_later : (setting : Setting) (journal : List Item)
    → JournalItemsHaveCauses IsLater journal (machine_retired_items setting journal)
unfolding machine_retired_items
retired_later setting journal = grind (arith, have_first, later_sends)

-- the members are told of the version to which current rises
raised_stamps : (setting : Setting) (now : List Item) (version : ℕ)
    → let raised = now ++ Item.Current version ∷ [] in HaveStamps setting
    (raised ++ machine_send_items raised (map (journal_stamp_for setting now version) (members setting now)))
raised_stamps setting now version = record {
  each = λ s there member. inr (by_member s there (was_member s member));
} where
  next : Item
  next = Item.Current version

  raised : List Item
  raised = now ++ next ∷ []

  stamps : List Message
  stamps = map (journal_stamp_for setting now version) (members setting now)

  after : List Item
  after = raised ++ machine_send_items raised stamps

  keeps : JournalControllerKeeps raised after
  keeps = leaves_keep raised _ (sends_leave raised stamps (each_map (ReopensAlone raised) _
      (members setting now) (each_always _ (λ s. tt) (members setting now))))

  leaves : (s : ℕ) → LeavesMember now next s
  leaves s = quiet_leaves now next s (known_more now next s) (over_more now next s) refl

  was_member : (s : ℕ) → IsTrue (is_member after s) → IsTrue (is_member now s)
  was_member s member = member_was now next s (leaves s) (sym (keeps.member s) ∙ member)

  mark : journal_current_mark after ≡ version
  mark = keeps.current ∙ current_more now next

  by_member : (s : ℕ) → s < length setting.net.switches → IsTrue (is_member now s)
      → IsStampSent after s (journal_known_boot after s) (journal_current_mark after)
  by_member s there member = subst (λ b. IsStampSent after s b (journal_current_mark after))
      (sym (keeps.known s ∙ known_more now next s))
      (subst (IsStampSent after s (journal_known_boot now s)) (sym mark) (record {
        touched = machine_touched_by setting now version;
        sent = sends_all raised stamps _ (in_map (journal_stamp_for setting now version) s
            (members setting now) (in_filter (is_member now) s (machine_switches_of setting) (in_range s 0
            (length setting.net.switches) (omega arith) (omega (arith, there))) member));
      }))

current_stamps : (setting : Setting) (now : List Item) → HaveStamps setting now
    → HaveStamps setting (now ++ machine_current_items setting now)
unfolding machine_current_items
current_stamps setting now have = by_test (nat_lt (journal_current_mark now) (journal_next_current setting now))
  where
    version : ℕ
    version = journal_next_current setting now

    stamps : List Message
    stamps = map (journal_stamp_for setting now version) (members setting now)

    by_test : (b : Bool) → HaveStamps setting (now ++ elim b [
      | false ↦ []
      | true ↦ journal_items_then (Item.Current version ∷ []) (λ raised. machine_send_items raised stamps) now
    ])
    by_test false = subst (HaveStamps setting) (sym (append-nil now)) have
    by_test true = subst (HaveStamps setting) (append_assoc now
        (Item.Current version ∷ []) (machine_send_items (now ++ Item.Current version ∷ []) stamps))
        (raised_stamps setting now version)

settling_stamps : (setting : Setting) (now : List Item) → HaveStamps setting now
    → HaveStamps setting (now ++ machine_settling setting now)
unfolding machine_settling
settling_stamps setting now have =
    let first : List Item = machine_current_items setting now in
    let rest : List Item =
    machine_blocks_in_turn (machine_open_items setting ∷ machine_retired_items setting ∷ []) (now ++ first) in
    subst (HaveStamps setting) (append_assoc now first rest)
    (fact_on (Both (HasControlItemCause setting) IsLater) (HaveStamps setting) (stamps_later setting)
    (now ++ first) rest (have_both (HasControlItemCause setting) IsLater (now ++ first) rest
    (have_rest (HasControlItemCause setting) now first rest (settling_have setting now))
    (have_in_turn IsLater (machine_open_items setting ∷ machine_retired_items setting ∷ [])
    (open_later setting, (retired_later setting, tt)) (now ++ first))) (current_stamps setting now
    have))

-- ---- steps

hello_stamps : (setting : Setting) (before : List Item) (body : Body) (now : List Item)
    → HaveStamps setting now → HaveStamps setting (now ++ machine_after_hello setting before body now)
hello_stamps setting before (Hello s boot) now have = search (rules, stamps_keep, installs_keep)
hello_stamps setting before _ now have = subst (HaveStamps setting) (sym (append-nil now)) have

heard_stamps : (setting : Setting) (before : List Item) (body : Body) (now : List Item)
    → HaveStamps setting now → HaveStamps setting (now ++ machine_controller_items setting before body now)
unfolding machine_controller_items
heard_stamps setting before body now have = subst (HaveStamps setting)
    (sym (in_two (machine_settling setting) (machine_after_hello setting before body) now)) (hello_stamps setting
    before body (now ++ machine_settling setting now) (settling_stamps setting now have))

still_stamps : (setting : Setting) (before : List Item) (next : Item)
    → ((s : ℕ) → journal_known_boot (before ++ next ∷ []) s ≡ journal_known_boot before s)
    → ((s : ℕ) → is_over (before ++ next ∷ []) s ≡ is_over before s)
    → ((s : ℕ) → machine_open_sent s (journal_known_boot before s) next ≡ [])
    → journal_current_mark (before ++ next ∷ []) ≡ journal_current_mark before
    → HaveStamps setting before → HaveStamps setting (before ++ next ∷ [])
still_stamps setting before next known over none current have = search (rules, stamped_still)

-- nothing happened
nothing_stamps : (setting : Setting) (here : List Item) → HaveStamps setting here
    → HaveStamps setting (here ++ nothing)
nothing_stamps setting here have = search (rules, still_stamps, known_more, over_more, current_more)

deliver_stamps : (setting : Setting) (before here : List Item) (number : ℕ) → StampsAreCurrent here
    → IsTrue (is_journal_controller_message before number) → HaveStamps setting here
    → HaveStamps setting (here ++ machine_deliver_items setting before number here)
deliver_stamps setting before here number are is have =
    let now : List Item = here ++ Item.Delivered number ∷ [] in
    let told = told_is before number is in
    deliver_cases (HaveStamps setting) setting before number here (nothing_stamps setting here have)
    (rw (delivery_told setting before number told.0 now told.1) (heard_stamps setting before told.0
    now (record { each = λ s there. stamped_delivered here number s are (have.each s there) })))

update_stamps : (setting : Setting) (file : ℕ) (here : List Item) → HaveStamps setting here
    → HaveStamps setting (here ++ machine_update_items setting file here)
update_stamps setting file here have =
    let next : Item = Item.Submitted file (journal_version_count here + 1) in
    let now : List Item = here ++ next ∷ [] in
    update_cases (HaveStamps setting) setting file here
    (λ code. let refused : Item = Item.Refused file code in
    still_stamps setting here refused (known_more here refused) (over_more here refused) (λ s. refl)
    (current_more here refused) have)
    (settling_stamps _ _ (stamps_keep _ now _ (all_keep setting now) (still_stamps setting here next
    (known_more here next) (over_more here next) (λ s. refl) (current_more here next) have)))

confirm_stamps : (setting : Setting) (s : ℕ) (here : List Item) → HaveStamps setting here
    → HaveStamps setting (here ++ machine_confirm_items setting s here)
confirm_stamps setting s here have = confirm_cases (HaveStamps setting) setting s here
    (nothing_stamps setting here have) (settling_stamps setting (here ++ Item.OverNow s ∷ [])
    (record { each = λ t there. stamped_over here s t (have.each t there) }))

told_stamps : (setting : Setting) (before here : List Item) (step : Step)
    → IsTrue (control_asks_controller before step) → StampsAreCurrent here → HaveStamps setting here
    → HaveStamps setting (here ++ machine_step_items setting before step here)
told_stamps setting before here step is are have =
    search (rules, deliver_stamps, update_stamps, confirm_stamps)

pub piece_stamps : (setting : Setting) (before : List Item) (row : ℕ) (step : Step)
    → StampsAreCurrent before → HaveStamps setting before
    → HaveStamps setting (before ++ piece setting before row step)
piece_stamps setting before row step are have = by_kind (control_asks_controller before step) refl where
  next : Item
  next = Item.Row row step

  begun : HaveStamps setting (before ++ next ∷ [])
  begun = still_stamps setting before next (λ s. known_more before next s)
      (λ s. over_more before next s) (λ s. refl) (current_more before next) have

  by_kind : (b : Bool) → control_asks_controller before step ≡ b
      → HaveStamps setting (before ++ piece setting before row step)
  by_kind false e = stamps_keep setting before _ (others_keep setting before row step e) have
  by_kind true e = behind_piece setting before row step (HaveStamps setting)
      (told_stamps setting before _ step e (current_kept setting before next tt are) begun)

-- each switch begins at the first version
pub stamps_at_first : (setting : Setting) → HaveStamps setting []
unfolding journal_opened_at journal_known_boot journal_controller_heard journal_current_mark
stamps_at_first setting = record { each = λ s there member. inl refl }
