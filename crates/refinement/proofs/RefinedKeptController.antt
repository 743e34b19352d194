-- What leaves the controller as it was, and the start.
use Rattle.std.proofs.Common.{[], ◌++◌, ◌+◌, ◌<◌, ◌∙◌, ◌∷◌, ◌≡◌, ◌≢◌, IsFalse, IsTrue, List, Some, ap, append-nil, append_assoc, arith, get_or-set_other, get_or-set_same, inl, inr, length, length-set, map, refl, replicate, subst, sym, unwrap_or, ℕ}
use Rattle.base.proofs.Exports.{cases_eq, get_or-replicate, length-replicate}
use Rattle.update_machine.specs.Exports.{JournalControllerKeeps, Item, Message, Setting, acked_stamp, journal_controller_heard, journal_current_mark, has_acked, machine_blocks_in_turn, is_member, is_over, journal_known_boot, journal_next_message, machine_open_sent, journal_opened_at, journal_retired_mark, machine_send_items, machine_sent_items_from, journal_version_count}
use Rattle.update_machine.proofs.Exports.{next_sent, start_laws}
use Rattle.control_laws.proofs.Exports.{acked_same, count_more, current_more, known_more, member_same, opened_same, over_more, retired_more, stamp_same, told_more}
use Rattle.version_update.specs.Exports.{MarksValue, version_marks_with_switch_changed, first_marks, first_update_record, update_record_of, unknown_update_record}
use Rattle.version_update.specs.declared.record.SwitchRecord.{SwitchRecord}
use Rattle.version_update.proofs.VersionAcknowledgements.{first_acked}
use Rattle.refinement.specs.Exports.{AreMarksRefined, IsKnownRefined, refined_act_item, refined_acts_written}
use Rattle.controller.specs.declared.sends.Act.{Act}
use Rattle.controller.specs.declared.sends.Act.TheVariants.{Post}

-- ---- one switch

-- what is known of a switch stays as it was
pub record StaysKnown (before after : List Item) (s : ℕ) : Type 0 where
  pub boot : journal_known_boot after s ≡ journal_known_boot before s
  pub over : is_over after s ≡ is_over before s
  pub opened : journal_opened_at after s ≡ journal_opened_at before s
  pub acked : (v : ℕ) → has_acked after s v ≡ has_acked before s v
  pub stamp : acked_stamp after s ≡ acked_stamp before s

pub known_on : (before after : List Item) (s : ℕ) (known : SwitchRecord)
    → StaysKnown before after s → IsKnownRefined before s known → IsKnownRefined after s known
known_on before after s known stays is =
    let member = member_same before after s stays.over stays.opened in record {
      boot = is.boot ∙ sym stays.boot;
      over = is.over ∙ sym stays.over;
      member = is.member ∙ sym member;
      acked = λ here v low. is.acked (subst IsFalse stays.over here) v low ∙ sym (stays.acked v);
      opened = λ here. is.opened (subst IsTrue member here)
          ∙ sym (ap (λ opened. unwrap_or opened 0) stays.opened);
      stamp = λ here. is.stamp (subst IsTrue member here) ∙ sym stays.stamp;
    }

-- an item that tells the controller nothing and opens no switch
pub quiet_stays : (before : List Item) (next : Item) (s : ℕ)
    → journal_controller_heard (before ++ next ∷ []) ≡ journal_controller_heard before
    → journal_known_boot (before ++ next ∷ []) s ≡ journal_known_boot before s
    → is_over (before ++ next ∷ []) s ≡ is_over before s
    → machine_open_sent s (journal_known_boot before s) next ≡ [] → StaysKnown before (before ++ next ∷ []) s
quiet_stays before next s heard known over none =
    let opened = opened_same before next s known none in record {
      boot = known;
      over = over;
      opened = opened;
      acked = λ v. acked_same (before ++ next ∷ []) before s v heard;
      stamp = stamp_same before (before ++ next ∷ []) s heard known opened;
    }

-- ---- all marks

-- what is known of the switches stays, and the marks are what they are now
pub stay_on : (setting : Setting) (before after : List Item)
    (marks : MarksValue) (count current retired : ℕ) → ((s : ℕ) → StaysKnown before after s)
    → count ≡ journal_version_count after → current ≡ journal_current_mark after → retired ≡ journal_retired_mark after
    → AreMarksRefined setting before marks → AreMarksRefined setting after
    (record marks { count = count; current = current; retired = retired })
stay_on setting before after marks count current retired stay counts is_current is_retired are =
    record {
      count = counts;
      current = is_current;
      retired = is_retired;
      many = are.many;
      each = λ s there. known_on before after s (update_record_of marks s) (stay s) (are.each s there);
    }

pub marks_on : (setting : Setting) (before after : List Item) (marks : MarksValue)
    → JournalControllerKeeps before after → AreMarksRefined setting before marks
    → AreMarksRefined setting after marks
marks_on setting before after marks keeps are = stay_on setting before after marks marks.count
    marks.current marks.retired (λ s. record {
      boot = keeps.known s;
      over = keeps.over s;
      opened = keeps.opened s;
      acked = keeps.acked s;
      stamp = keeps.stamp s;
    }) (are.count ∙ sym keeps.count) (are.current ∙ sym keeps.current)
    (are.retired ∙ sym keeps.retired) are

-- current rises
pub current_on : (setting : Setting) (journal : List Item) (version : ℕ) (marks : MarksValue)
    → AreMarksRefined setting journal marks → AreMarksRefined setting
    (journal ++ Item.Current version ∷ []) (record marks { current = version })
current_on setting journal version marks are = let next : Item = Item.Current version in
    stay_on setting journal (journal ++ next ∷ []) marks marks.count version marks.retired
    (λ s. quiet_stays journal next s (told_more journal next) (known_more journal next s)
    (over_more journal next s) refl) (are.count ∙ sym (count_more journal next))
    (sym (current_more journal next)) (are.retired ∙ sym (retired_more journal next)) are

-- retired rises
pub retired_on : (setting : Setting) (journal : List Item) (version : ℕ) (marks : MarksValue)
    → AreMarksRefined setting journal marks → AreMarksRefined setting
    (journal ++ Item.Retired version ∷ []) (record marks { retired = version })
retired_on setting journal version marks are = let next : Item = Item.Retired version in
    stay_on setting journal (journal ++ next ∷ []) marks marks.count marks.current version
    (λ s. quiet_stays journal next s (told_more journal next) (known_more journal next s)
    (over_more journal next s) refl) (are.count ∙ sym (count_more journal next))
    (are.current ∙ sym (current_more journal next)) (sym (retired_more journal next)) are

-- one more version
pub count_on : (setting : Setting) (journal : List Item) (file version : ℕ) (marks : MarksValue)
    → AreMarksRefined setting journal marks → AreMarksRefined setting
    (journal ++ Item.Submitted file version ∷ []) (record marks { count = marks.count + 1 })
count_on setting journal file version marks are = let next : Item = Item.Submitted file version in
    stay_on setting journal (journal ++ next ∷ []) marks (marks.count + 1) marks.current
    marks.retired
    (λ s. quiet_stays journal next s (told_more journal next) (known_more journal next s)
    (over_more journal next s) refl)
    (ap (λ k. k + 1) are.count ∙ sym (count_more journal next))
    (are.current ∙ sym (current_more journal next))
    (are.retired ∙ sym (retired_more journal next)) are

-- an item of which one switch's record is changed
pub switch_on : (setting : Setting) (journal : List Item)
    (next : Item) (marks : MarksValue) (s : ℕ) (change : SwitchRecord → SwitchRecord)
    → journal_version_count (journal ++ next ∷ []) ≡ journal_version_count journal
    → journal_current_mark (journal ++ next ∷ []) ≡ journal_current_mark journal
    → journal_retired_mark (journal ++ next ∷ []) ≡ journal_retired_mark journal
    → ((t : ℕ) → t ≢ s → StaysKnown journal (journal ++ next ∷ []) t) → s < length marks.switches
    → IsKnownRefined (journal ++ next ∷ []) s (change (update_record_of marks s))
    → AreMarksRefined setting journal marks
    → AreMarksRefined setting (journal ++ next ∷ []) (version_marks_with_switch_changed s change marks)
switch_on setting journal next marks s change count current retired others there own are = record {
  count = are.count ∙ sym count;
  current = are.current ∙ sym current;
  retired = are.retired ∙ sym retired;
  many = length-set marks.switches s (change (update_record_of marks s)) ∙ are.many;
  each = λ t below. elim (cases_eq t s) [
    | inl same ↦ rw same (subst (IsKnownRefined (journal ++ next ∷ []) s)
        (sym (get_or-set_same marks.switches s (change (update_record_of marks s)) unknown_update_record there))
        own)
    | inr other ↦
        subst (IsKnownRefined (journal ++ next ∷ []) t)
        (sym (get_or-set_other marks.switches s t (change (update_record_of marks s)) unknown_update_record other))
        (known_on journal (journal ++ next ∷ []) t (update_record_of marks t) (others t other) (are.each t
        (omega (arith, below, length-set marks.switches s (change (update_record_of marks s))))))
  ];
}

-- ---- the start

opened_first : (s : ℕ) → journal_opened_at [] s ≡ Some 1
unfolding journal_opened_at journal_known_boot journal_controller_heard
opened_first s = refl

known_first : (s : ℕ) → IsKnownRefined [] s first_update_record
known_first s = record {
  boot = sym (start_laws.known s);
  over = sym (start_laws.over s);
  member = sym (start_laws.member s);
  acked = λ here v low. first_acked v low ∙ sym (start_laws.acked s v);
  opened = λ here. sym (ap (λ opened. unwrap_or opened 0) (opened_first s));
  stamp = λ here. sym (start_laws.acked_stamp s);
}

pub marks_begun : (setting : Setting)
    → AreMarksRefined setting [] (first_marks (length setting.net.switches))
marks_begun setting =
    let n : ℕ = length setting.net.switches in
    let many : length (replicate n first_update_record) ≡ n = length-replicate n first_update_record in record {
      count = sym start_laws.count;
      current = sym start_laws.current;
      retired = sym start_laws.retired;
      many = many;
      each = λ s there. subst (IsKnownRefined [] s)
          (sym (get_or-replicate n s first_update_record unknown_update_record (omega arith))) (known_first s);
    }

-- ---- what acts write, one part after another

pub written_append : (journal : List Item) (xs ys : List Act) → refined_acts_written journal (xs ++ ys)
    ≡ refined_acts_written journal xs ++ refined_acts_written (journal ++ refined_acts_written journal xs) ys
written_append journal [] ys = ap (λ js. refined_acts_written js ys) (sym (append-nil journal))
written_append journal (act ∷ xs) ys =
    let next : Item = refined_act_item journal act in
    let here : List Item = journal ++ next ∷ [] in
    ap (λ items. next ∷ items)
    (written_append here xs ys ∙ ap (λ js. refined_acts_written here xs ++ refined_acts_written js ys)
    (append_assoc journal (next ∷ []) (refined_acts_written here xs)))

-- acts of several parts write blocks in turn
pub written_in_two : (journal : List Item) (a b : List Item → List Item) (xs ys : List Act)
    → let one = journal ++ a journal in
    refined_acts_written journal xs ≡ a journal → refined_acts_written one ys ≡ b one
    → refined_acts_written journal (xs ++ ys) ≡ machine_blocks_in_turn (a ∷ b ∷ []) journal
written_in_two journal a b xs ys first second =
    cc (written_append journal xs ys, first, second, append-nil (b (journal ++ a journal)))

pub written_in_three : (journal : List Item) (a b c : List Item → List Item)
    (xs ys zs : List Act) → let one = journal ++ a journal in let two = one ++ b one in
    refined_acts_written journal xs ≡ a journal → refined_acts_written one ys ≡ b one → refined_acts_written two zs
    ≡ c two
    → refined_acts_written journal (xs ++ ys ++ zs) ≡ machine_blocks_in_turn (a ∷ b ∷ c ∷ []) journal
written_in_three journal a b c xs ys zs first second third =
    let one : List Item = journal ++ a journal in
    ap (refined_acts_written journal) (append_assoc xs ys zs) ∙ written_append journal xs (ys ++ zs)
    ∙ ap (λ items. items ++ refined_acts_written (journal ++ items) (ys ++ zs)) first
    ∙ ap (λ items. a journal ++ items) (written_in_two one b c ys zs second third)

-- messages are sent
pub posted : (messages : List Message) (journal : List Item)
    → refined_acts_written journal (map Post messages) ≡ machine_send_items journal messages
unfolding machine_sent_items_from
posted [] journal = refl
posted (message ∷ messages) journal = let next : Item = Item.Sent (journal_next_message journal) message in
    ap (λ items. next ∷ items)
    (posted messages (journal ++ next ∷ [])
    ∙ ap (λ n. machine_sent_items_from n messages) (next_sent journal (journal_next_message journal) message))
