-- The newest version's policy, as the marks settle.
use Rattle.std.proofs.Common.{[], ◌++◌, ◌+◌, ◌-◌, ◌==◌, ◌∙◌, ◌∷◌, ◌≡◌, ◌≤◌, Bool, List, None, Option, Some, ap, arith, cond, eq-eqb, false, find, leb, map, option_map, refl, suc, true, zero, ℕ}
use Rattle.base.proofs.Exports.{nat_tests, range_with_len}
use Rattle.policy_rules.specs.declared.policy.Row.{Row}
use Rattle.version_update.specs.Exports.{MarksValue, version_marks_with_version}
use Rattle.controller.specs.Exports.{ControllerValue, IsSoundController, ControllerKeptPlan, ControllerSettlesWith, ControllerSubmitsPlan, controller_newest_policy, controller_kept_plans_from}

abbrev pub found : ℕ → List ControllerKeptPlan → Option ControllerKeptPlan
found version plans = find (λ (kept : ControllerKeptPlan). kept.version == version) plans

abbrev policy_kept : ℕ → List ControllerKeptPlan → Option (List Row)
policy_kept version plans = option_map (λ (kept : ControllerKeptPlan). kept.plan.policy) (found version plans)

-- a version from the current one on is found among the plans that are kept
pub still_found : (current version : ℕ) (plans : List ControllerKeptPlan) → current ≤ version
    → found version (controller_kept_plans_from current plans) ≡ found version plans
still_found current version [] low = refl
still_found current version (kept ∷ plans) low = by_tests (leb current kept.version)
    (kept.version == version) refl refl (still_found current version plans low)
  where
    by_tests : (stays is_it : Bool) → leb current kept.version ≡ stays → (kept.version == version)
        ≡ is_it → found version (controller_kept_plans_from current plans) ≡ found version plans
        → found version (cond stays (kept ∷ controller_kept_plans_from current plans) (controller_kept_plans_from current plans))
        ≡ cond is_it (Some kept) (found version plans)
    by_tests true is_it stays is rest = cc (is, rest)
    by_tests false true stays is rest = absurd (grind (arith, nat_tests))
    by_tests false false stays is rest = rest

-- the last version is found at the end
last_found : (first n version : ℕ) (plans : List ControllerKeptPlan) (last : ControllerKeptPlan)
    → map (λ (kept : ControllerKeptPlan). kept.version) plans ≡ range_with_len first n
    → last.version ≡ version → version ≡ first + n → found version (plans ++ last ∷ []) ≡ Some last
last_found first zero version [] last are is at = ap (λ b. cond b (Some last) None) (eq-eqb _ _ is)
last_found first (suc n) version [] last are is at = absurd cc
last_found first zero version (kept ∷ plans) last are is at = absurd cc
last_found first (suc n) version (kept ∷ plans) last are is at =
    let its : kept.version ≡ first = cc in
    let rest : map (λ (kept : ControllerKeptPlan). kept.version) plans ≡ range_with_len (first + 1) n = cc in
    let other : (kept.version == version) ≡ false = grind (arith, nat_tests) in
    ap (λ b. cond b (Some kept) (found version (plans ++ last ∷ []))) other
    ∙ last_found (first + 1) n version plans last rest is (omega (arith, at))

-- what settles keeps the newest version
newest_settled : (before : MarksValue) (kept : List ControllerKeptPlan) (new : ControllerValue)
    → IsSoundController new → ControllerSettlesWith before kept new
    → controller_newest_policy new ≡ policy_kept before.count kept
newest_settled before kept new is settles =
    ap (λ plans. policy_kept new.marks.count plans) settles.plans
    ∙ ap (option_map (λ (kept : ControllerKeptPlan). kept.plan.policy))
    (still_found new.marks.current new.marks.count kept is.marks.bounds.last)
    ∙ ap (λ version. policy_kept version kept) settles.marks.1.count

pub newest_added : (old new : ControllerValue) (next : ControllerKeptPlan) → IsSoundController old
    → IsSoundController new → next.version ≡ old.marks.count + 1 → ControllerSubmitsPlan old next new
    → controller_newest_policy new ≡ Some next.plan.policy
newest_added old new next was is number submits =
    newest_settled (version_marks_with_version old.marks) (old.plans ++ next ∷ []) new is submits
    ∙ ap (option_map (λ (kept : ControllerKeptPlan). kept.plan.policy))
    (last_found old.marks.current (old.marks.count + 1 - old.marks.current) (old.marks.count + 1)
    old.plans next was.versions number (omega (arith, was.marks.bounds.last)))

-- so where there is no new version it stays as it was
pub newest_stays : (before : MarksValue) (old new : ControllerValue) → IsSoundController new
    → ControllerSettlesWith before old.plans new → before.count ≡ old.marks.count
    → controller_newest_policy new ≡ controller_newest_policy old
newest_stays before old new is settles same = newest_settled before old.plans new is settles
    ∙ ap (λ version. policy_kept version old.plans) same
