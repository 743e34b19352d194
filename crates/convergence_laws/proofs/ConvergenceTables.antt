-- At the end of each step each switch that isn't over was sent, in its known boot, the tables of
-- each version from the current one to the last.
use Rattle.std.proofs.Common.{[], if◌then◌else◌, ◌++◌, ◌+◌, ◌<◌, ◌∙◌, ◌∷◌, ◌≡◌, ◌≤◌, ◌⊎◌, Bool, IsFalse, IsTrue, List, Some, ap, append-nil, arith, false, inl, inr, length, nat_lt, not, refl, subst, sym, true, ℕ, rules}
use Rattle.base.proofs.Exports.{cases_eq, each_always, each_map, ⊤}
use Rattle.update_machine.specs.Exports.{Body, JournalControllerKeeps, Deliver, Hello, Install, Item, Message, Setting, Step, Tables, machine_after_hello, machine_confirm_items, machine_controller_items, journal_current_mark, machine_deliver_items, machine_delivery_items, journal_install_for, machine_installs_to, machine_installs_to_all, is_journal_controller_message, is_new_boot_in_journal, is_over, journal_known_boot, journal_message_of, piece, journal_raises_known_boot, machine_send_items, machine_settling, machine_step_items, machine_switches_of, journal_tables_at, machine_message_to_switch, machine_update_items, journal_version_count, journal_versions_from_current}
use Rattle.ctrl_msg.specs.Exports.{message_to_controller}
use Rattle.update_machine.proofs.Exports.{start_laws}
use Rattle.control_laws.specs.Exports.{HasControlItemCause, control_asks_controller}
use Rattle.control_laws.proofs.Exports.{AreKept, Both, ReopensAlone, behind_piece, confirm_cases, count_more, current_more, deliver_cases, fact_on, grows, have_both, hello_sent, in_two, installs_reopen, known_more, leaves_keep, message_more, others_keep, over_more, sends_any, sends_leave, settling_have, settling_settles, told_is, unraised_same, update_cases}
use Rattle.convergence_laws.proofs.ConvergencePlainItems.{IsPlain, in_filter, in_map, in_range, settling_plain}
use Rattle.convergence_laws.proofs.ConvergenceMessages.{IsSent, sends_all, sent_on}

-- tables of the version were sent to the switch, for this boot
pub record TablesSent (journal : List Item) (s boot version : ℕ) : Type 0 where
  pub tables : Tables
  pub of : tables.version ≡ version
  pub sent : IsSent journal (machine_message_to_switch s (Install boot tables))

-- each switch that isn't over has those of each version from the current one to the last of these,
-- or began with them; but those that are still owed
pub record HaveInstalls (setting : Setting) (Owed : ℕ → Type 0) (last : ℕ) (journal : List Item)
    : Type 0 where
  pub each : (s version : ℕ) → s < length setting.net.switches → IsFalse (is_over journal s)
      → journal_current_mark journal ≤ version → version ≤ last
      → Owed s ⊎ (((version ≡ 1) × (journal_known_boot journal s ≡ 1))
      ⊎ TablesSent journal s (journal_known_boot journal s) version)

tables_on : (journal items : List Item) (s boot version : ℕ) → TablesSent journal s boot version
    → TablesSent (journal ++ items) s boot version
tables_on journal items s boot version sent = record {
  tables = sent.tables;
  of = sent.of;
  sent = sent_on journal items (machine_message_to_switch s (Install boot sent.tables)) sent.sent;
}

-- ---- where nothing changes for the switch

installs_same : (setting : Setting) (Owed : ℕ → Type 0) (last : ℕ) (before items : List Item)
    → ((s : ℕ) → journal_known_boot (before ++ items) s ≡ journal_known_boot before s)
    → ((s : ℕ) → IsFalse (is_over (before ++ items) s) → IsFalse (is_over before s))
    → journal_current_mark before ≤ journal_current_mark (before ++ items)
    → HaveInstalls setting Owed last before → HaveInstalls setting Owed last (before ++ items)
installs_same setting Owed last before items known over current have = record {
  each = λ s version there not_over above below.
      elim (have.each s version there (over s not_over) (omega (arith, current, above)) below) [
        | inl owed ↦ inl owed
        | inr had ↦ elim had [
          | inl first ↦ inr (inl (first.0, known s ∙ first.1))
          | inr sent ↦ inr (inr (rw (known s) (tables_on before items s _ version sent)))
        ]
      ];
}

-- ---- items

plain_known : (before : List Item) (next : Item) → IsPlain before next → (s : ℕ)
    → journal_known_boot (before ++ next ∷ []) s ≡ journal_known_boot before s
plain_known before next plain s = search (rules, known_more)

plain_over : (before : List Item) (next : Item) → IsPlain before next → (s : ℕ)
    → IsFalse (is_over (before ++ next ∷ []) s) → IsFalse (is_over before s)
plain_over before next plain s none = search (rules, over_more)

current_up : (setting : Setting) (before : List Item) (next : Item)
    → HasControlItemCause setting before next → journal_current_mark before ≤ journal_current_mark (before ++ next ∷ [])
current_up setting before next cause = search (rules, current_more)

installs_on : (setting : Setting) (Owed : ℕ → Type 0) (last : ℕ)
    → AreKept (Both (HasControlItemCause setting) IsPlain) (HaveInstalls setting Owed last)
installs_on setting Owed last before next both have =
    installs_same setting Owed last before (next ∷ []) (plain_known before next both.second)
    (plain_over before next both.second) (current_up setting before next both.first) have

settling_installs : (setting : Setting) (Owed : ℕ → Type 0) (last : ℕ) (now : List Item)
    → HaveInstalls setting Owed last now
    → HaveInstalls setting Owed last (now ++ machine_settling setting now)
settling_installs setting Owed last now have = fact_on _ _ (installs_on setting Owed last) now
    (machine_settling setting now) (have_both (HasControlItemCause setting) IsPlain now (machine_settling setting now)
    (settling_have setting now) (settling_plain setting now)) have

-- messages leave all of it
abbrev IsSending : List Item → Item → Type 0
IsSending before (Item.Sent number message) = ⊤
IsSending before _ = ⊥

sends_installs : (setting : Setting) (Owed : ℕ → Type 0) (last : ℕ) (now : List Item)
    (messages : List Message) → HaveInstalls setting Owed last now
    → HaveInstalls setting Owed last (now ++ machine_send_items now messages)
sends_installs setting Owed last now messages have = fact_on IsSending _ kept now
    (machine_send_items now messages) (sends_any IsSending (λ before n message. tt) now messages) have
  where
    kept : AreKept IsSending (HaveInstalls setting Owed last)
    kept before (Item.Sent n message) is have = let next : Item = Item.Sent n message in
        installs_same setting Owed last before (next ∷ []) (λ s. known_more before next s)
        (λ s none. sym (over_more before next s) ∙ none)
        (omega (arith, current_more before next)) have
    kept before _ is have = absurd is

-- ---- a delivery

-- the switch whose known boot it raises is owed its tables
delivered_owed : (setting : Setting) (last : ℕ) (before : List Item) (number : ℕ)
    → HaveInstalls setting (λ s. ⊥) last before → HaveInstalls setting
    (λ s. journal_raises_known_boot before s number ≡ true) last (before ++ Item.Delivered number ∷ [])
delivered_owed setting last before number have = record {
  each = λ s version there none above below. by_raise s version there none above below _ refl;
} where
  next : Item
  next = Item.Delivered number

  by_raise : (s version : ℕ) → s < length setting.net.switches
      → IsFalse (is_over (before ++ next ∷ []) s)
      → journal_current_mark (before ++ next ∷ []) ≤ version → version ≤ last → (b : Bool)
      → journal_raises_known_boot before s number ≡ b → (journal_raises_known_boot before s number ≡ true)
      ⊎ (((version ≡ 1) × (journal_known_boot (before ++ next ∷ []) s ≡ 1))
      ⊎ TablesSent (before ++ next ∷ []) s (journal_known_boot (before ++ next ∷ []) s) version)
  by_raise s version there none above below true e = inl e
  by_raise s version there none above below false e = let known = unraised_same before number s e in
      elim (have.each s version there
      (sym (over_more before next s ∙ ap (λ b. if b then false else is_over before s) e) ∙ none)
      (omega (arith, above, current_more before next)) below) [
        | inl owed ↦ absurd owed
        | inr had ↦ elim had [
          | inl first ↦ inr (inl (first.0, known ∙ first.1))
          | inr sent ↦ inr (inr (rw known (tables_on before (next ∷ []) s _ version sent)))
        ]
      ]

-- what raises the known boot of a switch is its hello
record IsHello (before : List Item) (number s : ℕ) : Type 0 where
  boot : ℕ
  sent : journal_message_of before number ≡ Some (message_to_controller (Hello s boot))
  new : IsTrue (is_new_boot_in_journal before s boot)

raises_by : (before : List Item) (number s : ℕ) → journal_raises_known_boot before s number ≡ true
    → IsHello before number s
raises_by before number s raises = search (rules, hello_sent)

-- all versions from the current one on are sent
installs_sent : (setting : Setting) (now : List Item) (s version : ℕ)
    → journal_current_mark now ≤ version → version ≤ journal_version_count now
    → TablesSent (now ++ machine_installs_to setting s now) s (journal_known_boot now s) version
unfolding machine_installs_to
installs_sent setting now s version above below = record {
  tables = journal_tables_at setting now version s;
  of = refl;
  sent = sends_all now _ _ (in_map (λ v. journal_install_for setting now v s) version
      (journal_versions_from_current now) (in_range version (journal_current_mark now) _ above (omega arith)));
}

hello_is : (setting : Setting) (before : List Item) (s boot : ℕ) (now : List Item)
    → IsTrue (is_new_boot_in_journal before s boot)
    → machine_after_hello setting before (Hello s boot) now ≡ machine_installs_to setting s now
hello_is setting before s boot now new = cc new

to_installs : (setting : Setting) (Owed : ℕ → Type 0) (last s : ℕ) (now : List Item)
    → HaveInstalls setting Owed last now
    → HaveInstalls setting Owed last (now ++ machine_installs_to setting s now)
unfolding machine_installs_to
to_installs setting Owed last s now have = sends_installs setting Owed last now _ have

hello_installs : (setting : Setting) (Owed : ℕ → Type 0) (last : ℕ) (before : List Item)
    (body : Body) (now : List Item) → HaveInstalls setting Owed last now
    → HaveInstalls setting Owed last (now ++ machine_after_hello setting before body now)
hello_installs setting Owed last before body now have = search (rules, to_installs)

pub installs_keep : (setting : Setting) (s : ℕ) (now : List Item)
    → JournalControllerKeeps now (now ++ machine_installs_to setting s now)
unfolding machine_installs_to
installs_keep setting s now = leaves_keep now _ (sends_leave now _ (installs_reopen _ now s _))

-- behind a hello that raised it all tables are sent
hello_sends : (setting : Setting) (before : List Item) (s boot version : ℕ) (body : Body)
    (now : List Item) → body ≡ Hello s boot → IsTrue (is_new_boot_in_journal before s boot)
    → version ≤ journal_version_count now
    → let after = now ++ machine_after_hello setting before body now in
    journal_current_mark after ≤ version → TablesSent after s (journal_known_boot after s) version
hello_sends setting before s boot version body now is new below =
    subst (λ items. journal_current_mark (now ++ items) ≤ version
    → TablesSent (now ++ items) s (journal_known_boot (now ++ items) s) version)
    (sym (ap (λ b. machine_after_hello setting before b now) is ∙ hello_is setting before s boot now new))
    (λ above. let keeps = installs_keep setting s now in
    subst (λ b. TablesSent (now ++ machine_installs_to setting s now) s b version) (sym (keeps.known s))
    (installs_sent setting now s version (omega (arith, above, keeps.current)) below))

-- the count of the versions stays while the marks settle
settling_count : (setting : Setting) (now : List Item)
    → journal_version_count (now ++ machine_settling setting now) ≡ journal_version_count now
settling_count setting now = (grows now (machine_settling setting now) (settling_settles setting now)).count

same_body : (before : List Item) (number : ℕ) (one other : Body) → journal_message_of before number
    ≡ Some (message_to_controller one) → journal_message_of before number ≡ Some (message_to_controller other) → one ≡ other
same_body before number one other first second = search rules

heard_installs : (setting : Setting) (before : List Item) (row number : ℕ) (step : Step)
    (body : Body) (now : List Item) → journal_message_of before number ≡ Some (message_to_controller body)
    → let here = before ++ Item.Row row step ∷ [] in
    (last : ℕ) → last ≡ journal_version_count now
    → HaveInstalls setting (λ s. journal_raises_known_boot here s number ≡ true) last now
    → HaveInstalls setting (λ s. ⊥) last (now ++ machine_controller_items setting before body now)
unfolding machine_controller_items
heard_installs setting before row number step body now sent last is have =
    let all : HaveInstalls setting (λ s. journal_raises_known_boot here s number ≡ true) last after =
    hello_installs setting _ last before body settled (settling_installs setting _ last now have) in
    subst (HaveInstalls setting (λ s. ⊥) last)
    (sym (in_two (machine_settling setting) (machine_after_hello setting before body) now)) (record {
      each = λ s version there none above below. by_owed s version above below
          (all.each s version there none above below);
    })
  where
    here : List Item
    here = before ++ Item.Row row step ∷ []

    settled : List Item
    settled = now ++ machine_settling setting now

    after : List Item
    after = settled ++ machine_after_hello setting before body settled

    by_owed : (s version : ℕ) → journal_current_mark after ≤ version → version ≤ last
        → (journal_raises_known_boot here s number ≡ true) ⊎ (((version ≡ 1) × (journal_known_boot after s ≡ 1))
        ⊎ TablesSent after s (journal_known_boot after s) version)
        → ⊥ ⊎ (((version ≡ 1) × (journal_known_boot after s ≡ 1))
        ⊎ TablesSent after s (journal_known_boot after s) version)
    by_owed s version above below (inr had) = inr had
    by_owed s version above below (inl raises) =
        let hello = raises_by here number s raises in
        let new = subst (λ k. IsTrue (nat_lt k hello.boot))
        (known_more before (Item.Row row step) s) hello.new in
        inr (inr (hello_sends setting before s hello.boot version body settled (same_body before
        number body (Hello s hello.boot) sent (sym (message_more before (Item.Row row step) number)
        ∙ hello.sent)) new (omega (arith, below, is, settling_count setting now)) above))

pub delivery_told : (setting : Setting) (before : List Item) (number : ℕ) (body : Body)
    (now : List Item) → journal_message_of before number ≡ Some (message_to_controller body)
    → machine_delivery_items setting before number now ≡ machine_controller_items setting before body now
unfolding machine_delivery_items
delivery_told setting before number body now sent = search rules

deliver_installs : (setting : Setting) (before : List Item) (row number : ℕ)
    → IsTrue (is_journal_controller_message before number)
    → let here = before ++ Item.Row row (Deliver number) ∷ [] in
    HaveInstalls setting (λ s. ⊥) (journal_version_count before) here
    → HaveInstalls setting (λ s. ⊥) (journal_version_count before)
    (here ++ machine_deliver_items setting before number here)
deliver_installs setting before row number is have =
    let here : List Item = before ++ Item.Row row (Deliver number) ∷ [] in
    let now : List Item = here ++ Item.Delivered number ∷ [] in
    let last : ℕ = journal_version_count before in
    let same : last ≡ journal_version_count now = sym (count_more here (Item.Delivered number)
    ∙ count_more before (Item.Row row (Deliver number))) in
    let told : (body : Body) × (journal_message_of before number ≡ Some (message_to_controller body)) =
    told_is before number is in
    deliver_cases (HaveInstalls setting (λ s. ⊥) last) setting before number here
    (installs_on setting (λ s. ⊥) last here Item.Nothing (record { first = tt; second = tt }) have)
    (rw (delivery_told setting before number told.0 now told.1)
    (heard_installs setting before row number (Deliver number) told.0 now told.1 last same
    (delivered_owed setting last here number have)))

hello_count : (setting : Setting) (before : List Item) (body : Body) (now : List Item)
    → journal_version_count (now ++ machine_after_hello setting before body now) ≡ journal_version_count now
hello_count setting before (Hello s boot) now = by_new (is_new_boot_in_journal before s boot) where
  by_new : (b : Bool) → journal_version_count (now ++ elim b [
    | true ↦ machine_installs_to setting s now
    | false ↦ []
  ]) ≡ journal_version_count now
  by_new false = ap journal_version_count (append-nil now)
  by_new true = (installs_keep setting s now).count
hello_count setting before _ now = ap journal_version_count (append-nil now)

controller_count : (setting : Setting) (before : List Item) (body : Body) (now : List Item)
    → journal_version_count (now ++ machine_controller_items setting before body now) ≡ journal_version_count now
unfolding machine_controller_items
controller_count setting before body now =
    ap journal_version_count (in_two (machine_settling setting) (machine_after_hello setting before body) now)
    ∙ hello_count setting before body (now ++ machine_settling setting now) ∙ settling_count setting now

deliver_count : (setting : Setting) (before : List Item) (row number : ℕ)
    → IsTrue (is_journal_controller_message before number)
    → let here = before ++ Item.Row row (Deliver number) ∷ [] in
    journal_version_count (here ++ machine_deliver_items setting before number here) ≡ journal_version_count before
deliver_count setting before row number is =
    let here : List Item = before ++ Item.Row row (Deliver number) ∷ [] in
    let next : Item = Item.Delivered number in
    let now : List Item = here ++ next ∷ [] in
    let same = count_more before (Item.Row row (Deliver number)) in
    let told = told_is before number is in
    deliver_cases (λ js. journal_version_count js ≡ journal_version_count before) setting before number here
    (count_more here Item.Nothing ∙ same)
    (ap (λ items. journal_version_count (now ++ items)) (delivery_told setting before number told.0 now
    told.1) ∙ controller_count setting before told.0 now ∙ count_more here next ∙ same)

-- ---- an update, and a confirmation

-- all that aren't over are sent the newest tables
newest_sent : (setting : Setting) (now : List Item) (s : ℕ) → s < length setting.net.switches
    → IsFalse (is_over now s)
    → TablesSent (now ++ machine_installs_to_all setting now) s (journal_known_boot now s) (journal_version_count now)
unfolding machine_installs_to_all
newest_sent setting now s there none = record {
  tables = journal_tables_at setting now (journal_version_count now) s;
  of = refl;
  sent = sends_all now _ _ (in_map (journal_install_for setting now (journal_version_count now)) s _
      (in_filter (λ t. not (is_over now t)) s (machine_switches_of setting) (in_range s 0
      (length setting.net.switches) (omega arith) (omega (arith, there))) (ap not none)));
}

pub all_keep : (setting : Setting) (now : List Item)
    → JournalControllerKeeps now (now ++ machine_installs_to_all setting now)
unfolding machine_installs_to_all
all_keep setting now = leaves_keep now _ (sends_leave now _ (each_map (ReopensAlone now)
    (journal_install_for setting now (journal_version_count now)) _ (each_always _ (λ s. tt) _)))

all_installs : (setting : Setting) (last : ℕ) (now : List Item)
    → last + 1 ≡ journal_version_count now → HaveInstalls setting (λ s. ⊥) last now
    → HaveInstalls setting (λ s. ⊥) (last + 1) (now ++ machine_installs_to_all setting now)
all_installs setting last now is have = record {
  each = λ s version there none above below. elim (cases_eq version (journal_version_count now)) [
    | inl newest ↦ inr (inr (rw newest
        (rw (keeps.known s) (newest_sent setting now s there (sym (keeps.over s) ∙ none)))))
    | inr older ↦ (kept have).each s version there none above (omega (arith, older, below, is))
  ];
} where
  after : List Item
  after = now ++ machine_installs_to_all setting now

  keeps : JournalControllerKeeps now after
  keeps = all_keep setting now

  kept : HaveInstalls setting (λ s. ⊥) last now → HaveInstalls setting (λ s. ⊥) last after
  kept have = installs_same setting (λ s. ⊥) last now (machine_installs_to_all setting now)
      keeps.known (λ s none. sym (keeps.over s) ∙ none) (omega (arith, keeps.current)) have

-- tables of all versions that are there
abbrev pub AllInstalled : Setting → List Item → Type 0
AllInstalled setting journal = HaveInstalls setting (λ s. ⊥) (journal_version_count journal) journal

-- items that leave the count of the versions, and the switches that aren't over
counted_on : (setting : Setting) (before : List Item) (next : Item)
    → Both (HasControlItemCause setting) IsPlain before next
    → journal_version_count (before ++ next ∷ []) ≡ journal_version_count before
    → AllInstalled setting before → AllInstalled setting (before ++ next ∷ [])
counted_on setting before next both same have = search (rules, installs_on)

-- and settling behind a version that may be new
settled_installs : (setting : Setting) (last : ℕ) (now : List Item) → last ≡ journal_version_count now
    → HaveInstalls setting (λ s. ⊥) last now → AllInstalled setting (now ++ machine_settling setting now)
settled_installs setting last now same have = search (rules, settling_count, settling_installs)

update_installs : (setting : Setting) (file : ℕ) (here : List Item) → AllInstalled setting here
    → AllInstalled setting (here ++ machine_update_items setting file here)
update_installs setting file here have =
    let next : Item = Item.Submitted file (journal_version_count here + 1) in
    let now : List Item = here ++ next ∷ [] in
    let more : journal_version_count here + 1 ≡ journal_version_count now = sym (count_more here next) in
    update_cases (AllInstalled setting) setting file here
    (λ code. counted_on setting here (Item.Refused file code) (record { first = tt; second = tt })
    (count_more here (Item.Refused file code)) have)
    (settled_installs setting (journal_version_count here + 1) (now ++ machine_installs_to_all setting now)
    (more ∙ sym (all_keep setting now).count) (all_installs setting (journal_version_count here) now more
    (installs_same setting (λ s. ⊥) (journal_version_count here) here (next ∷ []) (λ s. known_more here next
    s) (λ s none. sym (over_more here next s) ∙ none) (omega (arith, current_more)) have)))

confirm_installs : (setting : Setting) (s : ℕ) (here : List Item) → AllInstalled setting here
    → AllInstalled setting (here ++ machine_confirm_items setting s here)
confirm_installs setting s here have = let next : Item = Item.OverNow s in
    confirm_cases (AllInstalled setting) setting s here
    (counted_on setting here _ (record { first = tt; second = tt }) (count_more here _) have)
    (settled_installs setting (journal_version_count here) (here ++ next ∷ []) (sym (count_more here next))
    (installs_same setting (λ t. ⊥) (journal_version_count here) here (next ∷ []) (λ t. known_more here next
    t) (λ t none. plain_over here next tt t none) (omega (arith, current_more here next)) have))

-- ---- steps

told_installs : (setting : Setting) (before : List Item) (row : ℕ) (step : Step)
    → IsTrue (control_asks_controller before step) → let here = before ++ Item.Row row step ∷ [] in
    AllInstalled setting here → AllInstalled setting (here ++ machine_step_items setting before step here)
told_installs setting before row step is =
    search (rules, deliver_count, deliver_installs, count_more, update_installs, confirm_installs)

other_installs : (setting : Setting) (before : List Item) (row : ℕ) (step : Step)
    → IsFalse (control_asks_controller before step) → AllInstalled setting before
    → AllInstalled setting (before ++ piece setting before row step)
other_installs setting before row step is have =
    let keeps = others_keep setting before row step is in
    subst (λ m. HaveInstalls setting (λ s. ⊥) m (before ++ piece setting before row step))
    (sym keeps.count)
    (installs_same setting (λ s. ⊥) (journal_version_count before) before (piece setting before row step)
    keeps.known (λ s none. sym (keeps.over s) ∙ none) (omega (arith, keeps.current)) have)

pub piece_installs : (setting : Setting) (before : List Item) (row : ℕ) (step : Step)
    → AllInstalled setting before → AllInstalled setting (before ++ piece setting before row step)
piece_installs setting before row step have = by_kind (control_asks_controller before step) refl where
  by_kind : (b : Bool) → control_asks_controller before step ≡ b
      → AllInstalled setting (before ++ piece setting before row step)
  by_kind false e = other_installs setting before row step e have
  by_kind true e = behind_piece setting before row step (AllInstalled setting)
      (told_installs setting before row step e (counted_on setting before (Item.Row row step)
      (record { first = tt; second = tt }) (count_more before (Item.Row row step)) have))

-- each switch begins with the first version
pub installs_at_first : (setting : Setting) → AllInstalled setting []
installs_at_first setting = search (rules, start_laws)
