-- Settled marks that nothing changed: nothing is sent, and no plan is let go.
use Rattle.std.proofs.Common.{[], ◌++◌, ◌+◌, ◌<◌, ◌∙◌, ◌∷◌, ◌≡◌, ◌≤◌, All, Bool, IsFalse, List, ap, arith, cond, false, filter, leb, length, ltb, map, refl, slice_get, suc, true, zero, ℕ}
use Rattle.base.proofs.Exports.{nat_tests, option_map_or, range_with_len, slice_get_past}
use Rattle.ctrl_msg.specs.declared.message.Body.{Body}
use Rattle.ctrl_msg.specs.declared.message.Body.TheVariants.{Hello, Installed, Stamped}
use Rattle.version_update.specs.declared.record.SwitchRecord.{SwitchRecord}
use Rattle.version_update.specs.Exports.{AreVersionMarksSettled, MarksValue, is_member, update_joining_opens_at, unknown_update_record}
use Rattle.controller.specs.Exports.{ControllerValue, ControllerKeptPlan, controller_collect_acts, controller_current_plan_touched, controller_hear_acts, controller_marks_after, controller_open_acts, controller_kept_plans_from, controller_posts_to, controller_settling_acts, controller_switches_by_record}
use Rattle.controller.specs.declared.sends.Act.TheVariants.{Current, Retired}
use Rattle.ctrl_msg.specs.declared.message.Body.TheVariants as body
use Rattle.controller.proofs.ControllerPickedSwitches.{picked_same, passes_there}
use Rattle.ternary.specs.Exports.{WordValue}

not_below : (n : ℕ) → ltb n n ≡ false
not_below n = grind (arith, nat_tests)

none_picked : (xs : List ℕ) → filter (λ _. false) xs ≡ []
none_picked [] = refl
none_picked (x ∷ xs) = none_picked xs

-- where no switch passes, there are none that do
those_none : (passes : SwitchRecord → Bool) (switches : List SwitchRecord)
    → All (λ known. IsFalse (passes known)) switches → controller_switches_by_record passes switches ≡ []
those_none passes switches fail = picked_same _ (λ _. false) fails
    (range_with_len 0 (length switches)) ∙ none_picked (range_with_len 0 (length switches))
  where
    fails : (s : ℕ) → option_map_or passes (slice_get switches s) false ≡ false
    fails s = by_test (ltb s (length switches)) refl where
      by_test : (b : Bool) → ltb s (length switches) ≡ b
          → option_map_or passes (slice_get switches s) false ≡ false
      by_test true is = let within : s < length switches = grind (arith, nat_tests) in
          passes_there passes switches s unknown_update_record within ∙ fail s unknown_update_record within
      by_test false is = let past : length switches ≤ s = grind (arith, nat_tests) in
          ap (λ o. option_map_or passes o false) (slice_get_past switches s past)

-- nothing is sent
pub nothing_sent : (touched : List WordValue) (marks : MarksValue) → AreVersionMarksSettled marks
    → controller_settling_acts touched marks marks ≡ []
nothing_sent touched marks is =
    let one = ap (λ b. cond b (Current marks.current ∷ controller_posts_to marks (λ boot. body.Stamp boot
    marks.current touched) (controller_switches_by_record (λ known. is_member known.phase) marks.switches)) [])
    (not_below marks.current) in
    let two = ap (controller_posts_to marks (λ boot. body.OpenAt boot marks.current))
    (those_none (update_joining_opens_at marks.current) marks.switches is.opened) in
    let three = ap (λ b. cond b (Retired marks.retired ∷ controller_posts_to marks (λ boot. body.Collect boot
    marks.retired) (controller_switches_by_record (λ known. is_member known.phase) marks.switches)) [])
    (not_below marks.retired) in
    ap (λ l. l ++ controller_open_acts marks marks ++ controller_collect_acts marks marks) one
    ∙ ap (λ l. l ++ controller_collect_acts marks marks) two ∙ three

-- the plans from the current version on are all
pub all_kept : (to from n : ℕ) (plans : List ControllerKeptPlan) → to ≤ from
    → map (λ kept. kept.version) plans ≡ range_with_len from n → controller_kept_plans_from to plans ≡ plans
all_kept to from n [] low versions = refl
all_kept to from zero (kept ∷ plans) low versions = cc
all_kept to from (suc n) (kept ∷ plans) low versions =
    let first : kept.version ≡ from = cc in
    let passes : leb to kept.version ≡ true = grind (arith, nat_tests) in
    ap (λ b. cond b (kept ∷ controller_kept_plans_from to plans) (controller_kept_plans_from to plans)) passes
    ∙ ap (λ l. kept ∷ l) (all_kept to (from + 1) n plans (omega arith) cc)

-- a body that isn't for the controller
pub record IsUnheard (body : Body) (controller : ControllerValue) : Type 0 where
  pub same : controller_marks_after body controller.marks ≡ controller.marks
  pub sent : controller_hear_acts body controller.marks controller
      ≡ controller_settling_acts (controller_current_plan_touched controller) controller.marks controller.marks ++ []

pub is_unheard : (body : Body) (controller : ControllerValue)
    → ((switch boot : ℕ) → body ≡ Hello switch boot → ⊥)
    → ((switch boot version : ℕ) → body ≡ Installed switch boot version → ⊥)
    → ((switch boot version : ℕ) → body ≡ Stamped switch boot version → ⊥)
    → IsUnheard body controller
is_unheard (Hello switch boot) controller hello installed stamped = absurd (hello switch boot refl)
is_unheard (Installed switch boot version) controller hello installed stamped =
    absurd (installed switch boot version refl)
is_unheard (Stamped switch boot version) controller hello installed stamped =
    absurd (stamped switch boot version refl)
is_unheard _ controller hello installed stamped = record { same = refl; sent = refl }
