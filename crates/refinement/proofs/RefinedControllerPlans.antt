-- The plans that a controller keeps are those of the versions from the current one to the last.
use Rattle.std.proofs.Common.{[], ◌++◌, ◌+◌, ◌-◌, ◌<◌, ◌==◌, ◌∙◌, ◌∷◌, ◌≡◌, ◌≤◌, Bool, List, None, Option, Some, ap, append-nil, arith, eq-eqb, false, find, inl, inr, map, max, nat_le, ne_eqb, option_and_then, option_map, option_to_list, refl, subst, suc, sym, true, zero, ℕ}
use Rattle.base.proofs.Exports.{cases_eq, filter_made, later_same, map-range_same, map-range_with_len_more, option_map_or, range_with_len}
use Rattle.controller.specs.Exports.{ControllerValue, ControllerKeptPlan, ControllerSettlesWith, controller_current_plan_touched, controller_newest_policy, controller_kept_plans_from}
use Rattle.update_machine.specs.Exports.{JournalControllerKeeps, MachineVersionHasPlan, Installed, IsMachineSetting, Item, Setting, JournalVersionsAreNumbered, journal_body_to_controller, journal_controller_heard, journal_current_mark, machine_installed_version, journal_known_boot, journal_message_of, machine_policy_in, machine_settling, machine_touched_by, journal_version_count, journal_versions_from_current}
use Rattle.update_machine.proofs.Exports.{begins_planned, plan_stays, policy_stays, start_laws, touched_stays}
use Rattle.control_laws.specs.Exports.{HasControlItemCause, ControlMarksAreBounded}
use Rattle.control_laws.proofs.Exports.{AreKept, FromCauses, HeardAreKnown, IsKnown, bounded, by_number, caused_numbered, from_causes, heard_known, installed_is, known_at_first, known_kept, known_rises, tells, told_by, told_by_more, told_sent, versions_planned}
use Rattle.refinement.specs.Exports.{AreMarksRefined, IsRefinedController, refined_plan_to_keep, refined_acts_written}
use Rattle.refinement.proofs.RefinedSettling.{AreCaused, settles_so}
use Rattle.version_update.specs.Exports.{MarksValue}
use Rattle.controller.specs.Sends as acts
use Rattle.controller.proofs.ControllerNewestPolicy.{still_found}
use Rattle.refinement.proofs.RefinedKeptController.{marks_on}
use Rattle.switch_table.specs.Exports.{cache_all_touched}
use Rattle.ctrl_msg.specs.Exports.{message_to_controller}

-- ---- the policy of the newest version, which the controller keeps

abbrev pub is_of : ℕ → ControllerKeptPlan → Bool
is_of version kept = kept.version == version

-- of the plans of a stretch of versions each is found by its version
pub find_kept : (setting : Setting) (journal : List Item) (low many version : ℕ) → low ≤ version
    → version < low + many
    → find (is_of version) (map (refined_plan_to_keep setting journal) (range_with_len low many))
    ≡ Some (refined_plan_to_keep setting journal version)
find_kept setting journal low zero version above below = absurd (omega (arith, above, below))
find_kept setting journal low (suc many) version above below = elim (cases_eq low version) [
  | inl same ↦ rw (eq-eqb low version same) (ap (λ v. Some (refined_plan_to_keep setting journal v)) same)
  | inr apart ↦ rw (ne_eqb low version apart) (find_kept setting journal (low + 1) many version
      (omega (arith, above, apart)) (omega (arith, below)))
]

-- the newest version has a plan, so its policy is there
pub newest_in : (setting : Setting) (journal : List Item) (controller : ControllerValue)
    → IsMachineSetting setting → AreCaused setting journal → IsRefinedController setting journal controller
    → controller_newest_policy controller ≡ machine_policy_in setting journal (journal_version_count journal)
newest_in setting journal controller is have refines =
    ap (option_map (λ (kept : ControllerKeptPlan). kept.plan.policy))
    (ap (λ n. find (is_of n) controller.plans) refines.marks.count
    ∙ ap (find (is_of (journal_version_count journal))) refines.plans ∙ find_kept setting journal
    (journal_current_mark journal) (journal_version_count journal + 1 - journal_current_mark journal)
    (journal_version_count journal) marks.there (omega (arith, marks.there))) ∙ sym planned.policy
  where
    marks : ControlMarksAreBounded setting journal
    marks = bounded setting journal have

    planned : MachineVersionHasPlan setting journal (journal_version_count journal)
    planned = (versions_planned setting journal have).planned (begins_planned setting is)
        (journal_version_count journal) (omega (arith, marks.first, marks.there)) (omega arith)

-- ---- controller plans

-- ---- plans

-- a version from the current one on keeps its plan
planned_on : (setting : Setting) (before items : List Item) (v : ℕ) → AreCaused setting before
    → journal_current_mark before ≤ v
    → v < journal_current_mark before + (journal_version_count before + 1 - journal_current_mark before)
    → refined_plan_to_keep setting before v ≡ refined_plan_to_keep setting (before ++ items) v
planned_on setting before items v have above below = rw (
  policy_stays setting before items v numbers last,
  plan_stays setting before items v numbers last,
  touched_stays setting before items v numbers last,
) refl
  where
    numbers : JournalVersionsAreNumbered before
    numbers = caused_numbered setting before have

    last : v ≤ journal_version_count before
    last = let marks = bounded setting before have in omega (arith, above, below, marks.there)

-- the plans stay, where neither a version nor a rise of the current mark came
pub plans_on : (setting : Setting) (before items : List Item) (plans : List ControllerKeptPlan)
    → AreCaused setting before → journal_version_count (before ++ items) ≡ journal_version_count before
    → journal_current_mark (before ++ items) ≡ journal_current_mark before
    → plans ≡ map (refined_plan_to_keep setting before) (journal_versions_from_current before)
    → plans ≡ map (refined_plan_to_keep setting (before ++ items)) (journal_versions_from_current (before ++ items))
plans_on setting before items plans have count current are =
    let after : List Item = before ++ items in
    are
    ∙ map-range_same (refined_plan_to_keep setting before) (refined_plan_to_keep setting after) (journal_current_mark before)
    (journal_version_count before + 1 - journal_current_mark before)
    (λ v above below. planned_on setting before items v have above below)
    ∙ ap (λ n. map (refined_plan_to_keep setting after)
    (range_with_len (journal_current_mark before) (n + 1 - journal_current_mark before))) (sym count)
    ∙ ap (λ c. map (refined_plan_to_keep setting after) (range_with_len c (journal_version_count after + 1 - c)))
    (sym current)

-- one more version
pub plans_pushed : (setting : Setting) (before items : List Item) (plans : List ControllerKeptPlan)
    (kept : ControllerKeptPlan) → AreCaused setting before
    → journal_version_count (before ++ items) ≡ journal_version_count before + 1
    → journal_current_mark (before ++ items) ≡ journal_current_mark before
    → kept ≡ refined_plan_to_keep setting (before ++ items) (journal_version_count before + 1)
    → plans ≡ map (refined_plan_to_keep setting before) (journal_versions_from_current before) → plans ++ kept ∷ []
    ≡ map (refined_plan_to_keep setting (before ++ items)) (journal_versions_from_current (before ++ items))
plans_pushed setting before items plans kept have count current new are =
    let after : List Item = before ++ items in
    let low : ℕ = journal_current_mark before in
    let n : ℕ = journal_version_count before + 1 - low in
    let there = (bounded setting before have).there in
    let many : n + 1 ≡ journal_version_count after + 1 - low = omega (arith, count, there) in
    ap (λ xs. xs ++ kept ∷ [])
    (are ∙ map-range_same (refined_plan_to_keep setting before) (refined_plan_to_keep setting after) low n
    (λ v above below. planned_on setting before items v have above below))
    ∙ ap (λ k. map (refined_plan_to_keep setting after) (range_with_len low n) ++ k ∷ []) new
    ∙ sym (map-range_with_len_more (refined_plan_to_keep setting after) low n (journal_version_count before + 1)
    (omega (arith, there)))
    ∙ ap (λ k. map (refined_plan_to_keep setting after) (range_with_len low k)) many
    ∙ ap (λ c. map (refined_plan_to_keep setting after) (range_with_len c (journal_version_count after + 1 - c)))
    (sym current)

-- those of the versions before a later current one are let go
later_plans : (setting : Setting) (before items : List Item) (plans : List ControllerKeptPlan)
    → AreCaused setting before → journal_version_count (before ++ items) ≡ journal_version_count before
    → journal_current_mark before ≤ journal_current_mark (before ++ items)
    → journal_current_mark (before ++ items) ≤ journal_version_count before
    → plans ≡ map (refined_plan_to_keep setting before) (journal_versions_from_current before)
    → controller_kept_plans_from (journal_current_mark (before ++ items)) plans
    ≡ map (refined_plan_to_keep setting (before ++ items)) (journal_versions_from_current (before ++ items))
later_plans setting before items plans have count rises bound are =
    let after : List Item = before ++ items in
    let to : ℕ = journal_current_mark after in
    let low : ℕ = journal_current_mark before in
    let n : ℕ = journal_version_count before + 1 - low in
    let own : max to low ≡ to = omega (arith, rises) in
    let many : low + n - to ≡ journal_version_count after + 1 - to = omega (arith, count, rises, bound) in
    ap (controller_kept_plans_from to) are
    ∙ filter_made (refined_plan_to_keep setting before) (λ kept. nat_le to kept.version)
    (range_with_len low n)
    ∙ later_same (refined_plan_to_keep setting before) (refined_plan_to_keep setting after) to low n
    (λ v above below. planned_on setting before items v have above below)
    ∙ ap (λ k. map (refined_plan_to_keep setting after) (range_with_len k (low + n - k))) own
    ∙ ap (λ k. map (refined_plan_to_keep setting after) (range_with_len to k)) many

-- none is let go twice
pub plans_stay : (setting : Setting) (journal : List Item) (plans : List ControllerKeptPlan) (current : ℕ)
    → AreCaused setting journal → current ≡ journal_current_mark journal
    → plans ≡ map (refined_plan_to_keep setting journal) (journal_versions_from_current journal)
    → controller_kept_plans_from current plans ≡ map (refined_plan_to_keep setting journal) (journal_versions_from_current journal)
plans_stay setting journal plans current have now are =
    let marks = bounded setting journal have in
    let same : journal ++ [] ≡ journal = append-nil journal in
    ap (λ c. controller_kept_plans_from c plans) (now ∙ sym (ap journal_current_mark same))
    ∙ later_plans setting journal [] plans have (ap journal_version_count same)
    (omega (arith, ap journal_current_mark same)) (omega (arith, ap journal_current_mark same, marks.there)) are
    ∙ ap (λ js. map (refined_plan_to_keep setting js) (journal_versions_from_current js)) same

-- ---- a controller

-- what leaves what it knows leaves it as it was
pub controller_on : (setting : Setting) (before items : List Item) (controller : ControllerValue)
    → AreCaused setting before → JournalControllerKeeps before (before ++ items)
    → IsRefinedController setting before controller
    → IsRefinedController setting (before ++ items) controller
controller_on setting before items controller have keeps is = record {
  marks = marks_on setting before (before ++ items) controller.marks keeps is.marks;
  plans = plans_on setting before items controller.plans have keeps.count keeps.current is.plans;
}

-- what the controller keeps for the version that is current then is what its change touches
settled_touched : (setting : Setting) (now : List Item) (before : MarksValue)
    (plans : List ControllerKeptPlan) (new : ControllerValue) → AreMarksRefined setting now before
    → plans ≡ map (refined_plan_to_keep setting now) (journal_versions_from_current now)
    → ControllerSettlesWith before plans new → controller_current_plan_touched new ≡ machine_touched_by setting now new.marks.current
settled_touched setting now before plans new marks are settles =
    let c = new.marks.current in
    let is = settles.marks.1 in
    let low = marks.current in
    ap (λ o. option_map_or (λ (kept : ControllerKeptPlan). kept.touched) o cache_all_touched)
    (ap (find (is_of c)) settles.plans ∙ still_found c c plans (omega arith)
    ∙ ap (find (is_of c)) are ∙ find_kept setting now (journal_current_mark now)
    (journal_version_count now + 1 - journal_current_mark now) c (omega (arith, low, is.current.rises))
    (omega (arith, low, marks.count, is.current.rises, is.current.bound)))

-- the marks settle, and the plans are let go that no later call names
pub settles_with : (setting : Setting) (now : List Item)
    (before : MarksValue) (plans : List ControllerKeptPlan) (new : ControllerValue) → AreCaused setting now
    → AreMarksRefined setting now before
    → plans ≡ map (refined_plan_to_keep setting now) (journal_versions_from_current now)
    → ControllerSettlesWith before plans new
    → (refined_acts_written now (acts.controller_settling_acts (controller_current_plan_touched new) before new.marks)
    ≡ machine_settling setting now) × IsRefinedController setting (now ++ machine_settling setting now) new
settles_with setting now before plans new have marks are settles =
    let is = settles.marks.1 in
    let so = settles_so setting now before new.marks settles.marks.0 (controller_current_plan_touched new)
    (settled_touched setting now before plans new marks are settles) have marks is in
    let after = so.1 in
    let current = after.current in
    let count : journal_version_count (now ++ machine_settling setting now) ≡ journal_version_count now =
    sym after.count ∙ is.count ∙ marks.count in (
      so.0,
      record {
        marks = after;
        plans = settles.plans ∙ ap (λ c. controller_kept_plans_from c plans) after.current
            ∙ later_plans setting now (machine_settling setting now) plans have count
            (omega (arith, marks.current, current, is.current.rises))
            (omega (arith, marks.count, current, is.current.bound)) are;
      },
    )

-- ---- no switch acknowledged tables in a boot that isn't known yet: none were sent to it in that
-- boot

-- the boot in which a switch heard tables is known; acknowledgements that were sent, and those that
-- the controller was told, are of boots that are
pub record AcksArePast (journal : List Item) : Type 0 where
  pub boots : IsKnown journal
  pub heard : HeardAreKnown journal
  pub sent : (s boot v n : ℕ) → journal_message_of journal n ≡ Some (message_to_controller (Installed s boot v))
      → boot ≤ journal_known_boot journal s
  pub told : (s boot : ℕ) → journal_known_boot journal s < boot → told_by (machine_installed_version s boot) journal ≡ []

-- ---- acknowledgements

sent_on : (setting : Setting) (before : List Item) (next : Item) (s boot v n : ℕ)
    → HasControlItemCause setting before next → AcksArePast before
    → journal_message_of (before ++ next ∷ []) n ≡ Some (message_to_controller (Installed s boot v))
    → boot ≤ journal_known_boot (before ++ next ∷ []) s
sent_on setting before next s boot v n cause past is = let rises = known_rises before next s in
    elim (by_number before next n (message_to_controller (Installed s boot v)) is) [
      | inl new ↦ let right = subst (HasControlItemCause setting before) new cause in
          omega (arith, past.heard s v right.heard, right.present.own, rises)
      | inr old ↦ omega (arith, past.sent s boot v n old, rises)
    ]

-- what the controller is told was sent
told_one : (before : List Item) (next : Item) (s boot : ℕ) → AcksArePast before
    → journal_known_boot before s < boot → tells (machine_installed_version s boot) before next ≡ []
told_one before (Item.Delivered number) s boot past later =
    by_told (option_and_then (machine_installed_version s boot) (journal_body_to_controller before number)) refl
  where
    by_told : (o : Option ℕ)
        → option_and_then (machine_installed_version s boot) (journal_body_to_controller before number) ≡ o
        → option_to_list o ≡ []
    by_told None e = refl
    by_told (Some v) e =
        let is = past.sent s boot v number (told_sent (machine_installed_version s boot) (Installed s boot)
        (installed_is s boot) before number v e) in
        absurd (omega (arith, is, later))
told_one before next s boot past later = refl

told_on : (before : List Item) (next : Item) (s boot : ℕ) → AcksArePast before
    → journal_known_boot (before ++ next ∷ []) s < boot
    → told_by (machine_installed_version s boot) (before ++ next ∷ []) ≡ []
told_on before next s boot past later =
    let was : journal_known_boot before s < boot = omega (arith, later, known_rises before next s) in
    told_by_more (machine_installed_version s boot) before next
    ∙ ap (λ xs. xs ++ tells (machine_installed_version s boot) before next) (past.told s boot was)
    ∙ told_one before next s boot past was

past_kept : (setting : Setting) → AreKept (HasControlItemCause setting) AcksArePast
past_kept setting before next cause past = record {
  boots = known_kept setting before next cause past.boots;
  heard = heard_known before next past.boots.boots past.heard;
  sent = λ s boot v n is. sent_on setting before next s boot v n cause past is;
  told = λ s boot later. told_on before next s boot past later;
}

past_at_first : AcksArePast []
unfolding journal_controller_heard
past_at_first = record {
  boots = known_at_first;
  heard = λ s v is. let no : false ≡ true = rw (start_laws.heard s) at is in absurd cc;
  sent = λ s boot v n is. absurd (cc (rw (start_laws.message n).message at is));
  told = λ s boot later. refl;
}

pub acks_past : FromCauses (λ setting. AcksArePast)
acks_past = from_causes (λ setting. AcksArePast) past_kept (λ setting. past_at_first)
