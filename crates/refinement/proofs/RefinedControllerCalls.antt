-- What the calls by which the controller begins, hears something and confirms write.
use Rattle.std.proofs.Common.{[], if◌then◌else◌, ◌++◌, ◌+◌, ◌-◌, ◌<◌, ◌∙◌, ◌∷◌, ◌≡◌, Bool, IsFalse, IsTrue, List, None, Some, ap, append-nil, append_assoc, arith, false, get_or-set_same, length, length-set, map, nat_lt, refl, subst, sym, true, ℕ}
use Rattle.base.proofs.Exports.{length-map, map_twice, range_with_len}
use Rattle.update_machine.specs.Exports.{Body, Confirm, Deliver, Hello, Item, Setting, Step, machine_after_hello, journal_body_to_controller, machine_confirm_items, machine_controller_items, journal_current_mark, machine_deliver_items, machine_delivery_items, journal_install_for, machine_installs_to, is_deliverable, is_new_boot_in_journal, is_machine_receiver_controller, is_up, journal_items_then, journal_known_boot, journal_message_of, nothing, piece, machine_received_items, machine_settling, journal_version_count, journal_versions_from_current}
use Rattle.ctrl_msg.specs.Exports.{message_to_controller}
use Rattle.update_machine.proofs.Exports.{controller_keeps, first_touched, have_append, start_laws}
use Rattle.control_laws.specs.Exports.{HasControlItemCause}
use Rattle.control_laws.proofs.Exports.{count_more, current_more, in_two, installs_reopen, leaves_keep, message_more, sends_leave, up_more}
use Rattle.version_update.specs.Exports.{MarksValue, mark_record_after_over, version_marks_with_switch_changed, update_record_of, update_takes_hello, unknown_update_record}
use Rattle.version_update.specs.Record as known
use Rattle.version_update.specs.declared.record.Phase.TheVariants.{Joining}
use Rattle.version_update.specs.declared.record.SwitchRecord.{SwitchRecord}
use Rattle.controller.specs.Exports.{ControllerValue, ControllerKeptPlan, ControllerReplyNamesExist, ControllerPlanValue, ControllerSettlesWith, controller_current_plan_touched, controller_at_start, controller_hear_acts, controller_install_act, controller_installs_after, controller_marks_after, controller_kept_plans_from}
use Rattle.controller.specs.Sends as acts
use Rattle.controller.specs.declared.sends.Act.{Act}
use Rattle.controller.specs.declared.sends.Act.TheVariants.{Post}
use Rattle.refinement.specs.Exports.{AreRefinedActsWritten, IsRefinedController, refined_plan_to_keep, refined_acts_written}
use Rattle.refinement.proofs.RefinedControllerHearing.{marks_over, marks_told}
use Rattle.refinement.proofs.RefinedKeptController.{marks_begun, posted, written_in_two}
use Rattle.refinement.proofs.RefinedControllerPlans.{controller_on, plans_on, plans_stay, settles_with}
use Rattle.refinement.proofs.RefinedSettling.{AreCaused, settled_boot, settling_caused}
use Rattle.ternary.specs.Exports.{WordValue}
use Rattle.switch_table.specs.Exports.{cache_all_touched}

-- ---- the start

pub begins : (setting : Setting) (plan : ControllerPlanValue) → plan ≡ (refined_plan_to_keep setting [] 1).plan
    → IsRefinedController setting [] (controller_at_start (length setting.net.switches) plan)
begins setting plan is = record {
  marks = marks_begun setting;
  plans = cc (is, first_touched setting [], start_laws.current, one);
} where
  kept : ControllerPlanValue → List WordValue → List ControllerKeptPlan
  kept own touched = (record { version = 1; plan = own; touched = touched }) ∷ []

  one : 1 ≡ journal_version_count [] + 1 - journal_current_mark []
  one = let current = start_laws.current in omega (arith, start_laws.count, current)

-- ---- behind a row

pub behind_row : (setting : Setting) (before : List Item) (row : ℕ) (step : Step)
    → AreCaused setting before → AreCaused setting (before ++ Item.Row row step ∷ [])
behind_row setting before row step have =
    have_append (HasControlItemCause setting) [] before (Item.Row row step ∷ []) have (tt, tt)

pub row_on : (setting : Setting) (before : List Item) (row : ℕ) (step : Step)
    (controller : ControllerValue) → AreCaused setting before
    → IsRefinedController setting before controller
    → IsRefinedController setting (before ++ Item.Row row step ∷ []) controller
row_on setting before row step controller have is =
    controller_on setting before (Item.Row row step ∷ []) controller have
    (controller_keeps before (Item.Row row step ∷ []) (refl, tt)) is

-- items that stand behind two others
behind_two : (before : List Item) (one two : Item) (items : List Item)
    → before ++ one ∷ two ∷ items ≡ ((before ++ one ∷ []) ++ two ∷ []) ++ items
behind_two before one two items = sym (append_assoc before (one ∷ []) (two ∷ items))
    ∙ sym (append_assoc (before ++ one ∷ []) (two ∷ []) items)

pub are_written : (setting : Setting) (before : List Item) (one two : Item) (items : List Item)
    (acts : List Act) (new : ControllerValue) → let now = (before ++ one ∷ []) ++ two ∷ [] in
    refined_acts_written now acts ≡ items → IsRefinedController setting (now ++ items) new
    → AreRefinedActsWritten setting before (one ∷ two ∷ []) acts new (one ∷ two ∷ items)
are_written setting before one two items acts new same after = record {
  same = ap (λ more. one ∷ two ∷ more)
      (sym same ∙ ap (λ js. refined_acts_written js acts) (append_assoc before (one ∷ []) (two ∷ [])));
  after = subst (λ js. IsRefinedController setting js new) (sym (behind_two before one two items)) after;
}

-- ---- what is delivered to the controller

-- a switch that told a new boot
hello_boot_is : (setting : Setting) (now : List Item) (s boot : ℕ) (old new : ControllerValue)
    → IsRefinedController setting (now ++ machine_settling setting now) new
    → ControllerSettlesWith (version_marks_with_switch_changed s (known.update_hello_recorded boot) old.marks) old.plans new
    → s < length old.marks.switches → update_takes_hello boot (update_record_of old.marks s) ≡ true
    → boot ≡ journal_known_boot (now ++ machine_settling setting now) s
hello_boot_is setting now s boot old new after settles there taken =
    let changed : MarksValue = version_marks_with_switch_changed s (known.update_hello_recorded boot) old.marks in
    let long = length-set old.marks.switches s
    (known.update_hello_recorded boot (update_record_of old.marks s)) in
    let is = settles.marks.1 in
    let below : s < length new.marks.switches = omega (
      arith,
      there,
      long,
      ap length is.switches,
      length-map changed.switches (known.opened_update_record new.marks.current),
    ) in
    sym (ap (λ value. boot_in value) (get_or-set_same old.marks.switches s
    (known.update_hello_recorded boot (update_record_of old.marks s)) unknown_update_record there)
    ∙ new_boot (update_record_of old.marks s) taken)
    ∙ sym (settled_boot changed new.marks settles.marks.0 s is (omega (arith, there, long)))
    ∙ (after.marks.each s below).boot
  where
    boot_in : SwitchRecord → ℕ
    boot_in value = value.boot

    joined : SwitchRecord
    joined = record { boot = boot; phase = Joining; acked = 0; open_version = 0; acked_stamp = 0 }

    new_boot : (value : SwitchRecord) → update_takes_hello boot value ≡ true
        → (known.update_hello_recorded boot value).boot ≡ boot
    new_boot value taken = ap (λ b. boot_in (if b then joined else value)) taken

hello_written : (setting : Setting) (before one : List Item)
    (body : Body) (old : MarksValue) (new : ControllerValue) → AreCaused setting one
    → IsRefinedController setting one new → ((s boot : ℕ) → body ≡ Hello s boot
    → (update_takes_hello boot (update_record_of old s) ≡ is_new_boot_in_journal before s boot)
    × (update_takes_hello boot (update_record_of old s) ≡ true → boot ≡ journal_known_boot one s))
    → refined_acts_written one (controller_installs_after body old new) ≡ machine_after_hello setting before body one
unfolding machine_installs_to
hello_written setting before one (Hello s boot) old new have is told =
    cc (by_new (update_takes_hello boot (update_record_of old s)) refl, (told s boot refl).0)
  where
    versions : List ℕ
    versions = journal_versions_from_current one

    by_new : (b : Bool) → update_takes_hello boot (update_record_of old s) ≡ b → refined_acts_written one
        (if b then map (controller_install_act s boot) (controller_kept_plans_from new.marks.current new.plans) else [])
        ≡ elim b [ true ↦ machine_installs_to setting s one | false ↦ [] ]
    by_new true e = ap (refined_acts_written one) (ap (map (controller_install_act s boot))
        (plans_stay setting one new.plans new.marks.current have is.marks.current is.plans)
        ∙ map_twice (refined_plan_to_keep setting one) (controller_install_act s boot) versions
        ∙ ap (λ b. map (λ v. controller_install_act s b (refined_plan_to_keep setting one v)) versions)
        ((told s boot refl).1 e) ∙ sym (map_twice (λ v. journal_install_for setting one v s) Post versions))
        ∙ posted (map (λ v. journal_install_for setting one v s) versions) one
    by_new false e = refl
hello_written setting before one body old new have is told = refl

installs_leave : (setting : Setting) (before one : List Item) (body : Body)
    (new : ControllerValue) → AreCaused setting one → IsRefinedController setting one new
    → IsRefinedController setting (one ++ machine_after_hello setting before body one) new
unfolding machine_installs_to
installs_leave setting before one (Hello s boot) new have is = by_new (is_new_boot_in_journal before s boot)
  where
    by_new : (b : Bool) → IsRefinedController setting
        (one ++ elim b [ true ↦ machine_installs_to setting s one | false ↦ [] ]) new
    by_new true = controller_on setting one (machine_installs_to setting s one) new have
        (leaves_keep one (machine_installs_to setting s one)
        (sends_leave one _ (installs_reopen setting one s (journal_versions_from_current one)))) is
    by_new false = subst (λ js. IsRefinedController setting js new) (sym (append-nil one)) is
installs_leave setting before one body new have is = rw (append-nil one) is

-- what is said, and what is known as it is
module _ (setting : Setting) (before : List Item) (row n : ℕ) (body : Body)
    (old new : ControllerValue) (have : AreCaused setting before)
    (is : IsRefinedController setting before old)
    (sent : journal_message_of before n ≡ Some (message_to_controller body)) (there : ControllerReplyNamesExist body old.marks)
    (settles : ControllerSettlesWith (controller_marks_after body old.marks) old.plans new) where
  abbrev here : List Item
  here = before ++ Item.Row row (Deliver n) ∷ []

  abbrev now : List Item
  now = here ++ Item.Delivered n ∷ []

  abbrev one : List Item
  one = now ++ machine_settling setting now

  here_have : AreCaused setting here
  here_have = behind_row setting before row (Deliver n) have

  now_have : AreCaused setting now
  now_have = have_append (HasControlItemCause setting) [] here (Item.Delivered n ∷ []) here_have (tt, tt)

  here_is : IsRefinedController setting here old
  here_is = row_on setting before row (Deliver n) old have is

  said : journal_body_to_controller here n ≡ Some body
  said = ap (λ o. elim o [
    | None ↦ None
    | Some message ↦ if is_machine_receiver_controller message.to then Some message.body else None
  ]) (message_more before (Item.Row row (Deliver n)) n ∙ sent)

  heard_settles : (refined_acts_written now (acts.controller_settling_acts (controller_current_plan_touched new) (controller_marks_after body old.marks) new.marks)
      ≡ machine_settling setting now) × IsRefinedController setting one new
  heard_settles = settles_with setting now (controller_marks_after body old.marks) old.plans new now_have
      (marks_told setting here n body old.marks here_have said there here_is.marks)
      (plans_on setting here (Item.Delivered n ∷ []) old.plans here_have
      (count_more here (Item.Delivered n)) (current_more here (Item.Delivered n)) here_is.plans)
      settles

  hello_told : (s boot : ℕ) → body ≡ Hello s boot
      → (update_takes_hello boot (update_record_of old.marks s) ≡ is_new_boot_in_journal before s boot)
      × (update_takes_hello boot (update_record_of old.marks s) ≡ true → boot ≡ journal_known_boot one s)
  hello_told s boot e =
      let below : s < length old.marks.switches = subst (λ b. ControllerReplyNamesExist b old.marks) e there in (
        ap (λ known. nat_lt known boot) (is.marks.each s below).boot,
        hello_boot_is setting now s boot old new heard_settles.1 (rw e at settles) below,
      )

  heard_so : (refined_acts_written now (controller_hear_acts body old.marks new)
      ≡ machine_controller_items setting before body now)
      × IsRefinedController setting (now ++ machine_controller_items setting before body now) new
  unfolding machine_controller_items
  heard_so = (
    written_in_two now (machine_settling setting) (machine_after_hello setting before body)
        (acts.controller_settling_acts (controller_current_plan_touched new) (controller_marks_after body old.marks) new.marks)
        (controller_installs_after body old.marks new) heard_settles.0 (hello_written setting before one body
        old.marks new (settling_caused setting now now_have) heard_settles.1 hello_told),
    rw (in_two (machine_settling setting) (machine_after_hello setting before body) now) (installs_leave setting
        before one body new (settling_caused setting now now_have) heard_settles.1),
  )

deliver_piece : (setting : Setting) (before : List Item) (row n : ℕ) (body : Body)
    → IsTrue (is_deliverable before n) → journal_message_of before n ≡ Some (message_to_controller body)
    → let now = (before ++ Item.Row row (Deliver n) ∷ []) ++ Item.Delivered n ∷ [] in
    Item.Row row (Deliver n) ∷ Item.Delivered n ∷ machine_controller_items setting before body now
    ≡ piece setting before row (Deliver n)
unfolding piece machine_deliver_items machine_delivery_items
deliver_piece setting before row n body may sent =
    let here : List Item = before ++ Item.Row row (Deliver n) ∷ [] in
    let now : List Item = here ++ Item.Delivered n ∷ [] in
    let told : elim (journal_message_of before n) [
      | None ↦ []
      | Some message ↦ machine_received_items setting before n message now
    ] ≡ machine_controller_items setting before body now = ap (λ o. elim o [
      | None ↦ []
      | Some message ↦ machine_received_items setting before n message now
    ]) sent in
    ap (λ items. Item.Row row (Deliver n) ∷ Item.Delivered n ∷ items) (sym told)
    ∙ ap (λ b. Item.Row row (Deliver n) ∷ elim b [
      | false ↦ nothing
      | true ↦ journal_items_then (Item.Delivered n ∷ []) (machine_delivery_items setting before n) here
    ]) (sym may)

pub hears : (setting : Setting) (before : List Item) (row n : ℕ) (body : Body)
    (old new : ControllerValue) → AreCaused setting before → IsRefinedController setting before old
    → IsTrue (is_deliverable before n) → journal_message_of before n ≡ Some (message_to_controller body)
    → ControllerReplyNamesExist body old.marks → ControllerSettlesWith (controller_marks_after body old.marks) old.plans new
    → AreRefinedActsWritten setting before (Item.Row row (Deliver n) ∷ Item.Delivered n ∷ [])
    (controller_hear_acts body old.marks new) new (piece setting before row (Deliver n))
hears setting before row n body old new have is may sent there settles =
    let so = heard_so setting before row n body old new have is sent there settles in
    subst (AreRefinedActsWritten setting before (Item.Row row (Deliver n) ∷ Item.Delivered n ∷ [])
    (controller_hear_acts body old.marks new) new) (deliver_piece setting before row n body may sent)
    (are_written setting before (Item.Row row (Deliver n)) (Item.Delivered n) _
    (controller_hear_acts body old.marks new) new so.0 so.1)

-- ---- a switch that is over

pub confirms : (setting : Setting) (before : List Item) (row s : ℕ) (old new : ControllerValue)
    → AreCaused setting before → IsRefinedController setting before old → IsFalse (is_up before s)
    → s < length old.marks.switches → ControllerSettlesWith (version_marks_with_switch_changed s mark_record_after_over old.marks) old.plans new
    → AreRefinedActsWritten setting before (Item.Row row (Confirm s) ∷ Item.OverNow s ∷ [])
    (acts.controller_settling_acts (controller_current_plan_touched new) (version_marks_with_switch_changed s mark_record_after_over old.marks) new.marks) new
    (piece setting before row (Confirm s))
unfolding piece machine_confirm_items
confirms setting before row s old new have is down there settles =
    subst (λ b. AreRefinedActsWritten setting before (Item.Row row (Confirm s) ∷ Item.OverNow s ∷ [])
    (acts.controller_settling_acts (controller_current_plan_touched new) (version_marks_with_switch_changed s mark_record_after_over old.marks) new.marks) new (Item.Row row (Confirm s)
    ∷ elim b [
      | true ↦ nothing
      | false ↦ journal_items_then (Item.OverNow s ∷ []) (machine_settling setting) here
    ])) (sym still)
    (are_written setting before (Item.Row row (Confirm s)) (Item.OverNow s) (machine_settling setting now)
    (acts.controller_settling_acts (controller_current_plan_touched new) (version_marks_with_switch_changed s mark_record_after_over old.marks) new.marks) new so.0 so.1)
  where
    here : List Item
    here = before ++ Item.Row row (Confirm s) ∷ []

    now : List Item
    now = here ++ Item.OverNow s ∷ []

    still : is_up here s ≡ false
    still = up_more before (Item.Row row (Confirm s)) s ∙ down

    here_have : AreCaused setting here
    here_have = behind_row setting before row (Confirm s) have

    here_is : IsRefinedController setting here old
    here_is = row_on setting before row (Confirm s) old have is

    so : (refined_acts_written now (acts.controller_settling_acts (controller_current_plan_touched new) (version_marks_with_switch_changed s mark_record_after_over old.marks) new.marks)
        ≡ machine_settling setting now) × IsRefinedController setting (now ++ machine_settling setting now) new
    so = settles_with setting now (version_marks_with_switch_changed s mark_record_after_over old.marks) old.plans new
        (have_append (HasControlItemCause setting) [] here (Item.OverNow s ∷ []) here_have (still, tt))
        (marks_over setting here s old.marks there here_is.marks)
        (plans_on setting here (Item.OverNow s ∷ []) old.plans here_have
        (count_more here (Item.OverNow s)) (current_more here (Item.OverNow s)) here_is.plans)
        settles
