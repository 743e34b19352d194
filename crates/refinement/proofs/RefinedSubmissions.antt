-- What the submission of a plan writes, and its refusals.
use Rattle.std.proofs.Common.{[], if◌then◌else◌, ◌++◌, ◌+◌, ◌-◌, ◌==◌, ◌∙◌, ◌∷◌, ◌≡◌, ◌≢◌, IsOk, List, None, Option, Some, ap, arith, eq-eqb, map, ne_eqb, not, refl, subst, sym, ℕ}
use Rattle.base.proofs.Exports.{filter}
use Rattle.update_machine.specs.Exports.{Item, Setting, Step, Update, machine_file_at, machine_hosted_or_none, journal_install_for, machine_installs_to_all, journal_items_then, journal_known_boot, journal_next_touched, piece, journal_plan_at, machine_policy_at, machine_policy_in, machine_settling, machine_submitted_items, machine_switches_of, machine_touched_of, machine_update_code, machine_update_items, journal_version_count, journal_versions_from_current}
use Rattle.update_machine.specs.Marks as machine
use Rattle.update_machine.proofs.Exports.{controller_keeps, have_append, next_is, next_touched_is, planned_code, policies_keep}
use Rattle.control_laws.specs.Exports.{HasControlItemCause, ControlSubmissionHasCause}
use Rattle.control_laws.proofs.Exports.{caused_numbered, current_more, have_front, in_two, submitted_have}
use Rattle.version_update.specs.Exports.{is_over, version_marks_with_version}
use Rattle.controller.specs.Exports.{ControllerValue, ControllerKeptPlan, ControllerPlanValue, ControllerSubmitsPlan, controller_recorded_boot, controller_current_plan_touched, controller_install_act, controller_next_kept_plan, controller_submit_acts, controller_switches_by_record}
use Rattle.controller.specs.Sends as acts
use Rattle.controller.specs.declared.sends.Act.{Act}
use Rattle.controller.specs.declared.sends.Act.TheVariants.{Post}
use Rattle.refinement.specs.Exports.{AreMarksRefined, AreRefinedActsWritten, IsRefinedController, IsNextPlanRefined, refined_plan_to_keep, refined_acts_written}
use Rattle.refinement.proofs.RefinedControllerCalls.{are_written, behind_row, row_on}
use Rattle.refinement.proofs.RefinedKeptController.{count_on, written_in_two}
use Rattle.refinement.proofs.RefinedControllerPlans.{controller_on, plans_on, plans_pushed, settles_with}
use Rattle.refinement.proofs.RefinedSettling.{AreCaused, leave_on, told_posted}
use Rattle.ternary.specs.Exports.{WordValue}

-- ---- a plan that is refused

-- and what its file touches
next_stays : (setting : Setting) (before : List Item) (row file : ℕ) (step : Step)
    → journal_next_touched setting (before ++ Item.Row row step ∷ []) file
    ≡ journal_next_touched setting before file
next_stays setting before row file step =
    let keep = policies_keep before (Item.Row row step ∷ []) (refl, tt) in
    ap (λ v. machine_touched_of (machine_file_at setting file)
    (machine_policy_in setting (before ++ Item.Row row step ∷ []) v)) keep.count
    ∙ ap (machine_touched_of (machine_file_at setting file)) (keep.rows setting (journal_version_count before))

-- a row leaves the next version's plan
next_on : (setting : Setting) (before : List Item) (row file : ℕ) (step : Step)
    (plan : ControllerPlanValue) (touched : List WordValue) → IsNextPlanRefined setting before file plan touched
    → IsNextPlanRefined setting (before ++ Item.Row row step ∷ []) file plan touched
next_on setting before row file step plan touched of = record {
  policy = (policies_keep before (Item.Row row step ∷ []) (refl, tt)).next setting file ∙ of.policy;
  hosted = of.hosted;
  touches = of.touches ∙ sym (next_stays setting before row file step);
}

-- the code of a refusal by the marks
abbrev code_of : ℕ → ℕ → Option ℕ
code_of live count = if live == 8 then Some 16 else if count == 64 then Some 17 else None

code_is : (setting : Setting) (journal : List Item)
    (file : ℕ) (plan : ControllerPlanValue) (touched : List WordValue) (old : ControllerValue)
    → IsNextPlanRefined setting journal file plan touched → IsRefinedController setting journal old
    → machine_update_code setting journal file
    ≡ code_of (old.marks.count - old.marks.retired) old.marks.count
code_is setting journal file plan touched old of is =
    planned_code setting journal file plan.policy plan.hosted of.policy of.hosted
    ∙ sym (ap (λ n. code_of (n - old.marks.retired) n) is.marks.count
    ∙ ap (λ r. code_of (journal_version_count journal - r) (journal_version_count journal)) is.marks.retired)

refused : (setting : Setting) (before : List Item) (row file code : ℕ) (old : ControllerValue)
    → AreCaused setting before → IsRefinedController setting before old
    → machine_update_code setting (before ++ Item.Row row (Update file) ∷ []) file ≡ Some code
    → AreRefinedActsWritten setting before (Item.Row row (Update file) ∷ Item.Refused file code ∷ []) [] old
    (piece setting before row (Update file))
unfolding piece machine_update_items
refused setting before row file code old have is coded =
    let items : List Item = Item.Row row (Update file) ∷ Item.Refused file code ∷ [] in
    let here : List Item = before ++ Item.Row row (Update file) ∷ [] in
    subst (λ o. AreRefinedActsWritten setting before items [] old (Item.Row row (Update file) ∷ elim o [
      | Some code ↦ Item.Refused file code ∷ []
      | None ↦ journal_items_then
          (Item.Submitted file (journal_version_count here + 1) ∷ []) (machine_submitted_items setting) here
    ])) (sym coded)
    (record {
      same = refl;
      after = controller_on setting before items old have
          (controller_keeps before items (refl, (refl, tt))) is;
    })

pub too_many_live : (setting : Setting) (before : List Item)
    (row file : ℕ) (old : ControllerValue) (plan : ControllerPlanValue) (touched : List WordValue)
    → AreCaused setting before → IsRefinedController setting before old
    → IsNextPlanRefined setting before file plan touched → old.marks.count - old.marks.retired ≡ 8
    → AreRefinedActsWritten setting before (Item.Row row (Update file) ∷ Item.Refused file 16 ∷ []) [] old
    (piece setting before row (Update file))
too_many_live setting before row file old plan touched have is of live = refused setting before row
    file 16 old have is (code_is setting (before ++ Item.Row row (Update file) ∷ []) file plan
    touched old (next_on setting before row file (Update file) plan touched of) (row_on setting
    before row (Update file) old have is) ∙ ap (λ b. if b then Some 16 else if old.marks.count == 64
    then Some 17 else None) (eq-eqb (old.marks.count - old.marks.retired) 8 live))

pub too_many_versions : (setting : Setting) (before : List Item) (row file : ℕ)
    (old : ControllerValue) (plan : ControllerPlanValue) (touched : List WordValue)
    → AreCaused setting before → IsRefinedController setting before old
    → IsNextPlanRefined setting before file plan touched
    → old.marks.count - old.marks.retired ≢ 8 → old.marks.count ≡ 64
    → AreRefinedActsWritten setting before (Item.Row row (Update file) ∷ Item.Refused file 17 ∷ []) [] old
    (piece setting before row (Update file))
too_many_versions setting before row file old plan touched have is of live count = refused setting
    before row file 17 old have is (code_is setting (before ++ Item.Row row (Update file) ∷ []) file
    plan touched old (next_on setting before row file (Update file) plan touched of) (row_on setting
    before row (Update file) old have is) ∙ ap (λ b. if b then Some 16 else if old.marks.count == 64
    then Some 17 else None) (ne_eqb (old.marks.count - old.marks.retired) 8 live)
    ∙ ap (λ b. if b then Some 17 else None) (eq-eqb old.marks.count 64 count))

-- ---- a plan that is taken in

module _ (setting : Setting) (before : List Item) (row file : ℕ) (old new : ControllerValue)
    (plan : ControllerPlanValue) (touched : List WordValue) (have : AreCaused setting before)
    (is : IsRefinedController setting before old) (of : IsNextPlanRefined setting before file plan touched)
    (live : old.marks.count - old.marks.retired ≢ 8) (few : old.marks.count ≢ 64)
    (taken : ControllerSubmitsPlan old (controller_next_kept_plan old plan touched) new) where
  abbrev here : List Item
  here = before ++ Item.Row row (Update file) ∷ []

  abbrev version : ℕ
  version = old.marks.count + 1

  abbrev now : List Item
  now = here ++ Item.Submitted file version ∷ []

  abbrev kept : ControllerKeptPlan
  kept = controller_next_kept_plan old plan touched

  here_have : AreCaused setting here
  here_have = behind_row setting before row (Update file) have

  here_is : IsRefinedController setting here old
  here_is = row_on setting before row (Update file) old have is

  here_of : IsNextPlanRefined setting here file plan touched
  here_of = next_on setting before row file (Update file) plan touched of

  number : version ≡ journal_version_count here + 1
  number = ap (λ k. k + 1) here_is.marks.count

  cause : ControlSubmissionHasCause setting here file version
  cause = let count = here_is.marks.count in record {
    next = number;
    rows = plan.policy;
    policy = here_of.policy;
    planned = subst IsOk (sym here_of.hosted) refl;
    live = λ e. live (omega (arith, e, count, here_is.marks.retired));
    few = λ e. few (omega (arith, e, count));
  }

  now_have : AreCaused setting now
  now_have = have_append (HasControlItemCause setting) [] here (Item.Submitted file version ∷ [])
      here_have (cause, tt)

  now_marks : AreMarksRefined setting now (version_marks_with_version old.marks)
  now_marks = count_on setting here file version old.marks here_is.marks

  own : (machine_policy_at setting now version ≡ plan.policy)
      × (journal_plan_at setting now version ≡ machine_hosted_or_none (setting.plan plan.policy))
  own = next_is setting here file version plan.policy (caused_numbered setting here here_have)
      number here_of.policy

  kept_is : kept ≡ refined_plan_to_keep setting now version
  kept_is = rw (
    own.0,
    own.1 ∙ ap machine_hosted_or_none of.hosted,
    next_touched_is setting here file version (caused_numbered setting here here_have) number
        ∙ sym here_of.touches,
  ) refl

  now_plans : old.plans ++ kept ∷ [] ≡ map (refined_plan_to_keep setting now) (journal_versions_from_current now)
  now_plans = plans_pushed setting here (Item.Submitted file version ∷ []) old.plans kept here_have
      (sym now_marks.count ∙ number) (current_more here (Item.Submitted file version))
      (kept_is ∙ ap (refined_plan_to_keep setting now) number) here_is.plans

  installed : refined_acts_written now (map (λ s. controller_install_act s (controller_recorded_boot old.marks s) kept)
      (controller_switches_by_record (λ known. not (is_over known.phase)) old.marks.switches))
      ≡ machine_installs_to_all setting now
  unfolding machine_installs_to_all
  installed = told_posted (λ s. controller_install_act s (controller_recorded_boot old.marks s) kept)
      (journal_install_for setting now (journal_version_count now)) (λ known. not (is_over known.phase))
      (λ s. not (machine.is_over now s)) setting now (version_marks_with_version old.marks) now_marks.many
      (λ s below. ap not (now_marks.each s below).over)
      (λ s below. ap (λ boot. controller_install_act s boot kept) (now_marks.each s below).boot
      ∙ ap (controller_install_act s (journal_known_boot now s)) kept_is
      ∙ ap (λ v. Post (journal_install_for setting now v s)) now_marks.count)

  abbrev one : List Item
  one = now ++ machine_installs_to_all setting now

  one_marks : AreMarksRefined setting one (version_marks_with_version old.marks)
  unfolding machine_installs_to_all
  one_marks = leave_on setting now (version_marks_with_version old.marks)
      (journal_install_for setting now (journal_version_count now))
      (filter (λ s. not (machine.is_over now s)) (machine_switches_of setting)) (λ s. tt) now_marks

  one_have : AreCaused setting one
  one_have = have_front (HasControlItemCause setting) [] one (machine_settling setting one)
      (subst (AreCaused setting) (in_two (machine_installs_to_all setting) (machine_settling setting) now)
      (have_append (HasControlItemCause setting) [] now (machine_submitted_items setting now) now_have
      (submitted_have setting now)))

  settled : (refined_acts_written one (acts.controller_settling_acts (controller_current_plan_touched new) (version_marks_with_version old.marks) new.marks)
      ≡ machine_settling setting one) × IsRefinedController setting (one ++ machine_settling setting one) new
  settled = settles_with setting one (version_marks_with_version old.marks) (old.plans ++ kept ∷ []) new one_have
      one_marks
      (plans_on setting now (machine_installs_to_all setting now) (old.plans ++ kept ∷ []) now_have
      (sym one_marks.count ∙ now_marks.count) (sym one_marks.current ∙ now_marks.current)
      now_plans) taken

  behind_row_written : AreRefinedActsWritten setting before (Item.Row row (Update file)
      ∷ Item.Submitted file version ∷ []) (controller_submit_acts old.marks kept new) new
      (Item.Row row (Update file) ∷ Item.Submitted file version ∷ machine_submitted_items setting now)
  behind_row_written = are_written setting before (Item.Row row (Update file))
      (Item.Submitted file version) (machine_submitted_items setting now) (controller_submit_acts old.marks kept new)
      new (written_in_two now (machine_installs_to_all setting) (machine_settling setting) _
      (acts.controller_settling_acts (controller_current_plan_touched new) (version_marks_with_version old.marks) new.marks) installed
      settled.0) (rw (in_two (machine_installs_to_all setting) (machine_settling setting) now) settled.1)

  coded : machine_update_code setting here file ≡ None
  coded = code_is setting here file plan touched old here_of here_is
      ∙ ap (λ b. if b then Some 16 else if old.marks.count == 64 then Some 17 else None)
      (ne_eqb (old.marks.count - old.marks.retired) 8 live)
      ∙ ap (λ b. if b then Some 17 else None) (ne_eqb old.marks.count 64 few)

  pub submits : AreRefinedActsWritten setting before
      (Item.Row row (Update file) ∷ Item.Submitted file (old.marks.count + 1) ∷ [])
      (controller_submit_acts old.marks kept new) new (piece setting before row (Update file))
  unfolding piece machine_update_items
  submits =
      let first : List Item = Item.Row row (Update file) ∷ Item.Submitted file version ∷ [] in
      let acts : List Act = controller_submit_acts old.marks kept new in
      subst (λ o. AreRefinedActsWritten setting before first acts new (Item.Row row (Update file) ∷ elim o [
        | Some code ↦ Item.Refused file code ∷ []
        | None ↦ journal_items_then
            (Item.Submitted file (journal_version_count here + 1) ∷ []) (machine_submitted_items setting) here
      ])) (sym coded)
      (subst (λ k. AreRefinedActsWritten setting before first acts new (Item.Row row (Update file)
      ∷ journal_items_then (Item.Submitted file k ∷ []) (machine_submitted_items setting) here)) number
      behind_row_written)
