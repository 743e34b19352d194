-- The plan of a version that is kept, and the tables that it gives.
use Rattle.std.proofs.Common.{[], if◌then◌else◌, ◌+◌, ◌-◌, ◌<◌, ◌==◌, ◌∙◌, ◌∷◌, ◌≡◌, ◌≢◌, ◌≤◌, ◌⊎◌, Bool, List, Some, ap, arith, eq-eqb, eqb-true, false, find, get_or, inl, inr, length, map, option_map, refl, suc, sym, true, zero, ℕ}
use Rattle.base.proofs.Exports.{cases_eq, false≢true, length-map, length-range_with_len, range_with_len}
use Rattle.controller.specs.Exports.{ControllerValue, IsSoundController, IsSoundControllerPlan, ControllerKeptPlan, controller_current_plan, controller_kept_plan_tables}
use Rattle.switch_table.specs.Exports.{tables_of}

-- if the versions ascend by one, each is at its place
found_at_place : (plans : List ControllerKeptPlan) (first n v : ℕ) (d : ControllerKeptPlan)
    → map (λ (kept : ControllerKeptPlan). kept.version) plans ≡ range_with_len first n → first ≤ v
    → v < first + n
    → find (λ (kept : ControllerKeptPlan). kept.version == v) plans ≡ Some (get_or plans (v - first) d)
found_at_place plans first zero v d are low high = absurd (omega (arith, low, high))
found_at_place [] first (suc n) v d are low high = absurd cc
found_at_place (kept ∷ plans) first (suc n) v d are low high = by_test (kept.version == v) refl
    (cases_eq first v) (λ above. found_at_place plans (first + 1) n v d rest above (omega arith))
  where
    its : kept.version ≡ first
    its = cc

    rest : map (λ (kept : ControllerKeptPlan). kept.version) plans ≡ range_with_len (first + 1) n
    rest = cc

    by_test : (b : Bool) → (kept.version == v) ≡ b → (first ≡ v) ⊎ (first ≢ v)
        → (first + 1 ≤ v → find (λ (kept : ControllerKeptPlan). kept.version == v) plans
        ≡ Some (get_or plans (v - (first + 1)) d))
        → (if b then Some kept else find (λ (kept : ControllerKeptPlan). kept.version == v) plans)
        ≡ Some (get_or (kept ∷ plans) (v - first) d)
    by_test true is at later =
        let same : kept.version ≡ v = eqb-true _ _ is in
        let place : v - first ≡ 0 = omega (arith, same, its) in rw place refl
    by_test false is (inl same) later = absurd (false≢true (sym is ∙ eq-eqb _ _ (its ∙ same)))
    by_test false is (inr other) later =
        let place : v - first ≡ suc (v - (first + 1)) = omega (arith, low, other) in
        rw place (later (omega (arith, low, other)))

module _ (controller : ControllerValue) (is : IsSoundController controller) (version : ℕ)
    (low : controller.marks.current ≤ version) (high : version ≤ controller.marks.count) where
  count_is : length controller.plans ≡ controller.marks.count + 1 - controller.marks.current
  count_is = sym (length-map controller.plans (λ (kept : ControllerKeptPlan). kept.version))
      ∙ ap length is.versions ∙ length-range_with_len controller.marks.current
      (controller.marks.count + 1 - controller.marks.current)

  pub kept_there : version - controller.marks.current < length controller.plans
  kept_there = omega (arith, count_is, low, high)

  -- the plan at the version's place
  kept_at : (d : ControllerKeptPlan) → find (λ (kept : ControllerKeptPlan). kept.version == version) controller.plans
      ≡ Some (get_or controller.plans (version - controller.marks.current) d)
  kept_at d = found_at_place controller.plans controller.marks.current
      (controller.marks.count + 1 - controller.marks.current) version d is.versions low
      (omega (arith, low, high))

  pub kept_tables_are : (kept : ControllerKeptPlan) (s : ℕ)
      → kept ≡ get_or controller.plans (version - controller.marks.current) kept
      → controller_kept_plan_tables controller version s ≡ Some (tables_of kept.plan.hosted kept.version s)
  kept_tables_are kept s at =
      ap (option_map (λ (kept : ControllerKeptPlan). tables_of kept.plan.hosted kept.version s))
      (kept_at kept ∙ ap Some (sym at))

  pub kept_sound : (kept : ControllerKeptPlan)
      → kept ≡ get_or controller.plans (version - controller.marks.current) kept
      → IsSoundControllerPlan kept.plan
  kept_sound kept at = rw at (is.sound _ kept kept_there)

pub current_there : (controller : ControllerValue) → IsSoundController controller
    → 0 < length controller.plans
current_there controller is = omega (
  arith,
  kept_there controller is controller.marks.current (omega arith) is.marks.bounds.last,
)

-- the first is that of the current version
pub current_kept : (controller : ControllerValue) → IsSoundController controller → (kept : ControllerKeptPlan)
    → kept ≡ get_or controller.plans 0 kept → controller_current_plan controller ≡ Some kept.plan
current_kept controller is kept at = let current = controller.marks.current in
    ap (option_map (λ (kept : ControllerKeptPlan). kept.plan))
    (kept_at controller is current (omega arith) is.marks.bounds.last kept
    ∙ ap Some (ap (λ n. get_or controller.plans n kept) (omega arith) ∙ sym at))
