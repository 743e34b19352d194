-- After recovery the controller knows of each switch that is up what it needs.
use Rattle.std.proofs.Common.{[], ◌<◌, ◌∙◌, ◌≡◌, ◌≤◌, ◌⊎◌, All, Bool, IsFalse, IsTrue, List, None, Some, ap, arith, eq-eqb, false, inl, inr, length, refl, subst, sym, true, ℕ}
use Rattle.base.proofs.Exports.{cases_lt}
use Rattle.ctrl_msg.specs.Exports.{body_boot, message_to_controller}
use Rattle.update_machine.specs.Exports.{Body, JournalItemsHaveCauses, Hello, Install, Installed, Item, Message, OpenAt, Setting, Stamp, Stamped, Tables, acked_stamp, journal_boot_of, journal_controller_heard, journal_current_mark, has_acked, is_journal_body_for_boot, is_member, is_over, is_up, journal_known_boot, journal_message_of, journal_next_message, open_version, journal_opened_at, journal_resent_by_controller, journal_resent_by_switch, machine_sendings, serves, machine_switches_of, journal_tables_at, machine_message_to_switch, machine_touched_by, journal_version_count, was_delivered_in_journal}
use Rattle.ternary.specs.Exports.{WordValue}
use Rattle.update_machine.proofs.Exports.{start_laws}
use Rattle.control_laws.specs.Exports.{HasControlItemCause, control_stamp_message_to}
use Rattle.control_laws.proofs.Exports.{AreKept, OpeningsStand, acked_stamp_opened, acknowledged, bounded, by_number, fact_on, member_of, opened_in, opened_is, opened_on, openings_at_first, openings_on}
use Rattle.convergence_laws.proofs.Exports.{AreReady, IsCaughtUp, IsIn, IsInOrder, IsTraced, TablesSent, caused_recorded, caused_traced, each_in, first_acked, hello_known, in_left, in_right, installed_acked, items_caused, opened_stamps, some_opening, stamped_acked}
use Rattle.forwarding_laws.proofs.RecoveryCalmItems.{Calmly, Stays, acked_grows, calm_causes, stamp_grows, stays}
use Rattle.forwarding_laws.proofs.RecoveryRows.{IsConfirmed, all_confirmed_on}
use Rattle.forwarding_laws.proofs.RecoveryDeliveries.{IsAnsweredSince, IsDeliveredIn, IsEarlier, IsFlushed, IsSince, delivered_answered, since_delivered, since_or_earlier, since_told}
use Rattle.forwarding_laws.proofs.RecoveredAdverts.{hello_resent, opening_resent, resent, stamp_resent, table_resent}

-- ---- the moment at which a switch is asked to send again

pub record IsAsked (setting : Setting) (before journal : List Item) (s : ℕ) : Type 0 where
  pub here : List Item
  pub first : Calmly setting before here
  pub rest : Calmly setting here journal
  pub sends : (message : Message) → IsIn message (resent setting here s)
      → IsSince (journal_next_message before) journal message

-- what is known of a journal after recovery
pub record IsRecovered (setting : Setting) (before journal : List Item) : Type 0 where
  pub flushed : IsFlushed setting before journal
  pub causes : JournalItemsHaveCauses (IsInOrder setting) [] before
  pub ready : AreReady setting journal
  pub asked : (s : ℕ) → s < length setting.net.switches → IsAsked setting before journal s
  pub delivers : (n : ℕ) → journal_next_message before ≤ n → IsTrue (was_delivered_in_journal journal n)
      → IsDeliveredIn setting before journal n

-- and what is known then of a switch that is up, where its known boot is that of the end
record Moment (setting : Setting) (before journal : List Item) (s : ℕ) : Type 0 where
  asked : IsAsked setting before journal s
  causes : JournalItemsHaveCauses (HasControlItemCause setting) [] asked.here
  known : journal_known_boot journal s ≡ journal_known_boot asked.here s
  not_over : IsFalse (is_over asked.here s)

-- a stamp was sent only to a switch that had been opened in that boot
record StampsFollow (journal : List Item) : Type 0 where
  each : (n s boot version : ℕ) (touched : List WordValue)
      → journal_message_of journal n ≡ Some (control_stamp_message_to s boot version touched)
      → (opened : ℕ) × (opened_in journal s boot ≡ Some opened)

stamps_follow_on : (setting : Setting) → AreKept (HasControlItemCause setting) StampsFollow
stamps_follow_on setting now next cause follow = record {
  each = λ n s boot version touched is.
      elim (by_number now next n (control_stamp_message_to s boot version touched) is) [
        | inl new ↦ let right = subst (HasControlItemCause setting now) new cause in
            let opening = some_opening now s right.member in (
              opening.0,
              opened_on now next s boot opening.0
                  (ap (opened_in now s) right.to.known ∙ sym (opened_is now s) ∙ opening.1),
            )
        | inr old ↦ let found = follow.each n s boot version touched old in
            (found.0, opened_on now next s boot found.0 found.1)
      ];
}

stamps_follow : (setting : Setting) (journal : List Item)
    → JournalItemsHaveCauses (HasControlItemCause setting) [] journal → StampsFollow journal
stamps_follow setting journal causes = fact_on (HasControlItemCause setting) StampsFollow
    (stamps_follow_on setting) [] journal causes (record {
      each = λ n s boot version touched is.
          let none : None ≡ Some (control_stamp_message_to s boot version touched) =
          rw (start_laws.message n).message at is in absurd cc;
    })

openings_stand : (setting : Setting) (journal : List Item)
    → JournalItemsHaveCauses (HasControlItemCause setting) [] journal → OpeningsStand journal
openings_stand setting journal causes = fact_on (HasControlItemCause setting) OpeningsStand
    (openings_on setting) [] journal causes openings_at_first

module _ (setting : Setting) (before journal : List Item)
    (are : IsRecovered setting before journal) where
  abbrev since : ℕ
  since = journal_next_message before

  calm : Calmly setting before journal
  calm = are.flushed.calm

  -- ---- what was sent to a switch of its boot was answered

  answered : (s : ℕ) (body : Body) → IsTrue (is_up journal s)
      → body_boot body ≡ Some (journal_boot_of journal s) → IsSince since journal (machine_message_to_switch s body)
      → IsAnsweredSince since journal s body
  answered s body up of sent = delivered_answered setting before journal sent.number s body
      are.causes (are.delivers sent.number sent.late (since_delivered setting before journal
      are.flushed sent.number sent.boot (machine_message_to_switch s body) sent.late sent.is))
      ((each_in (IsTraced journal)
      (record { number = sent.number; message = machine_message_to_switch s body; boot = sent.boot })
      (machine_sendings journal) are.flushed.traced.each sent.is).message) up own
    where
      own : IsTrue (is_journal_body_for_boot (journal_boot_of journal s) body)
      own = rw of (eq-eqb (journal_boot_of journal s) (journal_boot_of journal s) refl)

  told : (body : Body) → IsSince since journal (message_to_controller body)
      → IsIn body (journal_controller_heard journal)
  told body sent = since_told setting before journal are.flushed body sent

  -- ---- boots

  known_own : (s : ℕ) → s < length setting.net.switches → IsTrue (is_up journal s)
      → journal_known_boot journal s ≡ journal_boot_of journal s
  known_own s there up =
      let asked = are.asked s there in
      let left = stays setting asked.here journal asked.rest in
      let heard = told (Hello s (journal_boot_of journal s))
      (subst (λ b. IsSince since journal (message_to_controller (Hello s b))) (sym (left.boot s))
      (asked.sends _ (in_left _ _ _ (hello_resent setting asked.here s (sym (left.up s) ∙ up))))) in
      let below = are.ready.recorded.known.boots.known s in
      omega (arith, hello_known journal s (journal_boot_of journal s) heard, below)

  -- ---- acknowledgements

  -- tables that were sent in the boot that lasts
  tables_acked : (s : ℕ) (tables : Tables) → s < length setting.net.switches
      → IsTrue (is_up journal s)
      → IsSince since journal (machine_message_to_switch s (Install (journal_known_boot journal s) tables))
      → IsTrue (has_acked journal s tables.version)
  tables_acked s tables there up sent = installed_acked journal s tables.version
      (told (Installed s (journal_known_boot journal s) tables.version)
      (answered s (Install (journal_known_boot journal s) tables) up (ap Some (known_own s there up)) sent))

  -- ---- what was sent in the boot that lasts was sent again, if it was sent before

  -- the moment at which a switch is asked whose boot was known before
  moment : (s : ℕ) → s < length setting.net.switches → IsTrue (is_up journal s)
      → journal_known_boot journal s ≤ journal_known_boot before s → Moment setting before journal s
  moment s there up past =
      let asked = are.asked s there in
      let left = stays setting asked.here journal asked.rest in
      let causes = calm_causes setting before asked.here are.causes asked.first in
      let same : journal_known_boot journal s ≡ journal_known_boot asked.here s =
      omega (arith, past, (stays setting before asked.here asked.first).known s, left.known s) in
      record {
        asked = asked;
        causes = items_caused setting asked.here causes;
        known = same;
        not_over = ((caused_traced setting asked.here causes).known.serving s).not_over
            (sym (left.up s) ∙ up) (sym same ∙ known_own s there up ∙ left.boot s);
      }

  -- a message of the known boot that was sent before shows that this boot was known
  known_before : (s n : ℕ) (body : Body) → journal_message_of before n ≡ Some (machine_message_to_switch s body)
      → body_boot body ≡ Some (journal_known_boot journal s) → journal_known_boot journal s ≤ journal_known_boot before s
  known_before s n body sent of = rw of at
      (are.flushed.first.known.boots.sent n (machine_message_to_switch s body) sent)

  -- ---- acknowledgements of each version

  table_acked : (s version : ℕ) → s < length setting.net.switches → IsTrue (is_up journal s)
      → journal_current_mark journal ≤ version → version ≤ journal_version_count journal
      → Moment setting before journal s → IsTrue (has_acked journal s version)
  table_acked s version there up above below at = by_acked (has_acked here s version) refl where
    here : List Item
    here = at.asked.here

    left : Stays here journal
    left = stays setting here journal at.asked.rest

    -- a member acknowledged the current version
    later : IsFalse (has_acked here s version) → IsTrue (is_member here s)
        → journal_current_mark here < version
    later none member = elim (cases_lt (journal_current_mark here) version) [
      | inl more ↦ more
      | inr past ↦ let bounds = bounded setting here at.causes in
          absurd (cc (sym none ∙ (acknowledged setting here at.causes).acked s version there member
          (omega (arith, acked_stamp_opened here s, bounds.known s, left.current, above)) past))
    ]

    by_acked : (b : Bool) → has_acked here s version ≡ b → IsTrue (has_acked journal s version)
    by_acked true e = acked_grows setting here journal s version at.asked.rest at.known e
    by_acked false e =
        let sent = at.asked.sends _ (in_right _ (journal_resent_by_switch setting here s)
        (journal_resent_by_controller setting here s) (table_resent setting here s version at.not_over
        (omega (arith, above, left.current)) (omega (arith, below, left.count)) e (later e))) in
        tables_acked s (journal_tables_at setting here version s) there up
        (rw at.known sent)

  all_acked : (s version : ℕ) → s < length setting.net.switches → IsTrue (is_up journal s)
      → journal_current_mark journal ≤ version → version ≤ journal_version_count journal
      → IsTrue (has_acked journal s version)
  all_acked s version there up above below = elim (are.ready.installs.each s version there
      ((are.ready.recorded.known.serving s).not_over up (known_own s there up)) above below) [
        | inl none ↦ absurd none
        | inr had ↦ elim had [
          | inl first ↦ rw first.0 (first_acked journal s first.1)
          | inr tables ↦ by_sent tables
              (since_or_earlier setting before journal _ calm are.flushed.traced tables.sent)
        ]
      ]
    where
      by_sent : (tables : TablesSent journal s (journal_known_boot journal s) version)
          → IsSince since journal (machine_message_to_switch s (Install (journal_known_boot journal s) tables.tables))
          ⊎ IsEarlier before (machine_message_to_switch s (Install (journal_known_boot journal s) tables.tables))
          → IsTrue (has_acked journal s version)
      by_sent tables (inl late) = rw tables.of at (tables_acked s tables.tables there up late)
      by_sent tables (inr early) = table_acked s version there up above below
          (moment s there up (known_before s early.number
          (Install (journal_known_boot journal s) tables.tables) early.sent refl))

  -- ---- members serve

  -- at the moment at which it is asked a switch is a member that was opened before
  member_then : (s version : ℕ) → (at : Moment setting before journal s)
      → opened_in before s (journal_known_boot journal s) ≡ Some version
      → (journal_opened_at at.asked.here s ≡ Some version) × IsTrue (is_member at.asked.here s)
  member_then s version at opened =
      let here = at.asked.here in
      let now = opened_is here s ∙ ap (opened_in here s) (sym at.known)
      ∙ (stays setting before here at.asked.first).opened s (journal_known_boot journal s) version opened in
      (now, member_of here s at.not_over (rw now refl))

  opening_served : (s version : ℕ) → s < length setting.net.switches → IsTrue (is_up journal s)
      → IsSince since journal (machine_message_to_switch s (OpenAt (journal_known_boot journal s) version))
      → IsTrue (serves journal s)
  opening_served s version there up sent =
      answered s (OpenAt (journal_known_boot journal s) version) up (ap Some (known_own s there up)) sent

  member_serves : (s : ℕ) → s < length setting.net.switches → IsTrue (is_up journal s)
      → IsTrue (is_member journal s) → IsTrue (serves journal s)
  member_serves s there up member = elim (are.ready.recorded.openings s (journal_known_boot journal s)
      opening.0 (sym (opened_is journal s) ∙ opening.1)) [
        | inl first ↦ are.ready.recorded.first s up (sym (known_own s there up) ∙ first)
        | inr sent ↦ elim (since_or_earlier setting before journal _ calm are.flushed.traced sent) [
          | inl late ↦ opening_served s opening.0 there up late
          | inr early ↦ again early
        ]
      ]
    where
      opening : (version : ℕ) × (journal_opened_at journal s ≡ Some version)
      opening = some_opening journal s member

      again : IsEarlier before (machine_message_to_switch s (OpenAt (journal_known_boot journal s) opening.0))
          → IsTrue (serves journal s)
      again early =
          let at = moment s there up (known_before s early.number
          (OpenAt (journal_known_boot journal s) opening.0) early.sent refl) in
          let here = at.asked.here in
          let then = member_then s opening.0 at (openings_stand setting before (items_caused setting
          before are.causes) s (journal_known_boot journal s) opening.0 early.number early.sent) in
          let sent = at.asked.sends _ (in_right _ (journal_resent_by_switch setting here s)
          (journal_resent_by_controller setting here s)
          (opening_resent setting here s at.not_over then.1)) in
          opening_served s (open_version here s) there up
          (subst (λ b. IsSince since journal (machine_message_to_switch s (OpenAt b (open_version here s))))
          (sym at.known) sent)

  -- ---- members are known to stamp with the current version

  stamp_known : (s version : ℕ) (touched : List WordValue) → s < length setting.net.switches
      → IsTrue (is_up journal s)
      → IsSince since journal (control_stamp_message_to s (journal_known_boot journal s) version touched)
      → version ≤ acked_stamp journal s
  stamp_known s version touched there up sent = stamped_acked journal s version
      (told (Stamped s (journal_known_boot journal s) version) (answered s
      (Stamp (journal_known_boot journal s) version touched) up (ap Some (known_own s there up)) sent))

  stamp_again : (s n : ℕ) (touched : List WordValue) → s < length setting.net.switches
      → IsTrue (is_up journal s)
      → journal_message_of before n ≡ Some (control_stamp_message_to s (journal_known_boot journal s) (journal_current_mark journal) touched)
      → journal_current_mark journal ≤ acked_stamp journal s
  stamp_again s n touched there up early =
      by_stamp (cases_lt (acked_stamp here s) (journal_current_mark here))
    where
      caused : JournalItemsHaveCauses (HasControlItemCause setting) [] before
      caused = items_caused setting before are.causes

      at : Moment setting before journal s
      at = moment s there up (known_before s n
          (Stamp (journal_known_boot journal s) (journal_current_mark journal) touched) early refl)

      here : List Item
      here = at.asked.here

      opened : (version : ℕ) × (opened_in before s (journal_known_boot journal s) ≡ Some version)
      opened = (stamps_follow setting before caused).each n s (journal_known_boot journal s)
          (journal_current_mark journal) touched early

      then : (journal_opened_at here s ≡ Some opened.0) × IsTrue (is_member here s)
      then = member_then s opened.0 at opened.1

      -- the mark was there then
      mark : journal_current_mark here ≡ journal_current_mark journal
      mark =
          let was : journal_current_mark journal ≤ journal_current_mark before =
          (caused_recorded setting before caused).current.sent n _ early in
          omega (
            arith,
            was,
            (stays setting before here at.asked.first).current,
            (stays setting here journal at.asked.rest).current,
          )

      by_stamp : (acked_stamp here s < journal_current_mark here) ⊎ (journal_current_mark here ≤ acked_stamp here s)
          → journal_current_mark journal ≤ acked_stamp journal s
      by_stamp (inl behind) =
          let sent = at.asked.sends _ (in_right _ (journal_resent_by_switch setting here s)
          (journal_resent_by_controller setting here s)
          (stamp_resent setting here s at.not_over then.1 behind)) in
          let known = stamp_known s (journal_current_mark here) (machine_touched_by setting here (journal_current_mark here))
          there up
          (subst (λ b. IsSince since journal (control_stamp_message_to s b (journal_current_mark here)
          (machine_touched_by setting here (journal_current_mark here)))) (sym at.known) sent) in
          omega (arith, known, mark)
      by_stamp (inr above) =
          let known = stamp_grows setting here journal s (journal_current_mark here) opened.0 at.asked.rest
          at.known then.0 above in
          omega (arith, known, mark)

  stamps_it : (s : ℕ) → s < length setting.net.switches → IsTrue (is_up journal s)
      → IsTrue (is_member journal s) → journal_current_mark journal ≤ acked_stamp journal s
  stamps_it s there up member = elim (are.ready.stamps.each s there member) [
    | inl opened ↦ opened_stamps journal s opened
    | inr stamp ↦
        elim (since_or_earlier setting before journal _ calm are.flushed.traced stamp.sent) [
          | inl late ↦ stamp_known s (journal_current_mark journal) stamp.touched there up late
          | inr early ↦ stamp_again s early.number stamp.touched there up early.sent
        ]
  ]

  pub recovered_caught : All (IsConfirmed before) (machine_switches_of setting) → IsCaughtUp setting journal
  recovered_caught confirmed = record {
    switches = all_confirmed_on setting before journal calm confirmed;
    known = known_own;
    acked = all_acked;
    serving = member_serves;
    stamps = stamps_it;
  }
