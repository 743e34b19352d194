-- The route of the search is the least path.
use Rattle.std.proofs.Common.{[], ◌<◌, ◌∙◌, ◌∷◌, ◌≡◌, ◌≤◌, List, ap, arith, eqb-true, false, length, nat_eq, refl, subst, suc, sym, true, zero, ℕ, rules}
use Rattle.base.proofs.Exports.{AllByRecursion, IsDistinct}
use Rattle.base.specs.Exports.{has}
use Rattle.failover.specs.Exports.{IsFailoverPathAtMost, IsRouteLinksAway, FailoverLinksLeadTo, route_ball, route_path_after}
use Rattle.failover.proofs.RouteLinkBalls.{false_of, apart_tests, ball_grows, ball_gains, at_target, has_target, next_step}

-- ---- the route leads to the target

pub length-onward : (links : List ℕ) (target k at : ℕ) → length (route_path_after links target k at) ≡ k
unfolding route_path_after
length-onward links target zero at = refl
length-onward links target (suc k) at = ap suc (length-onward links target k _)

pub onward_leads : (links : List ℕ) (target k at : ℕ) → length links ≡ 64 → target < 64 → at < 64 →
    IsRouteLinksAway links target k at → FailoverLinksLeadTo links target at (route_path_after links target k at)
unfolding route_path_after
onward_leads links target zero at rows target_fits at_fits away =
    at_target links target at away.here
onward_leads links target (suc k) at rows target_fits at_fits away =
    let step = next_step links target k at rows target_fits at_fits away in
    (step.below, step.joined, onward_leads links target k _ rows target_fits step.below step.away)

-- ---- and meets no switch twice

differ : (x y : ℕ) (mask : ℕ) → has mask x ≡ false → has mask y ≡ true → nat_eq x y ≡ false
differ x y mask absent member =
    false_of _ (λ e. apart_tests _ (ap (has mask) (eqb-true x y e) ∙ member) absent)

onward_apart : (links : List ℕ) (target k at x : ℕ) → length links ≡ 64 → target < 64 → at < 64 →
    IsRouteLinksAway links target k at → ((j : ℕ) → j < k → has (route_ball links target j) x ≡ false) →
    AllByRecursion (λ y. nat_eq x y ≡ false) (route_path_after links target k at)
unfolding route_path_after
onward_apart links target zero at x rows target_fits at_fits away absent = tt
onward_apart links target (suc k) at x rows target_fits at_fits away absent =
    let step = next_step links target k at rows target_fits at_fits away in (
      differ x _ _ (absent k (omega arith)) step.away.here,
      onward_apart links target k _ x rows
          target_fits step.below step.away (λ j less. absent j (omega arith)),
    )

pub onward_distinct : (links : List ℕ) (target k at : ℕ) → length links ≡ 64 → target < 64 →
    at < 64 → IsRouteLinksAway links target k at → IsDistinct nat_eq (at ∷ route_path_after links target k at)
unfolding route_path_after IsDistinct
onward_distinct links target zero at rows target_fits at_fits away = (tt, tt)
onward_distinct links target (suc k) at rows target_fits at_fits away =
    let step = next_step links target k at rows target_fits at_fits away in (
      onward_apart links target (suc k) at at rows target_fits at_fits away away.later,
      onward_distinct links target k _ rows target_fits step.below step.away,
    )

-- ---- no path is shorter, or less

pub reaches : (links : List ℕ) (target at : ℕ) (rest : List ℕ) (k : ℕ) → length links ≡ 64 →
    at < 64 → FailoverLinksLeadTo links target at rest → length rest ≤ k → has (route_ball links target k) at ≡ true
reaches links target at [] zero rows fits leads short = cc (leads, has_target links target)
reaches links target at [] (suc k) rows fits leads short = ball_grows links target k at
    (omega arith) (reaches links target at [] k rows fits leads (omega arith))
reaches links target at (next ∷ rest) zero rows fits leads short = absurd (omega arith)
reaches links target at (next ∷ rest) (suc k) rows fits leads short = ball_gains links target k at
    next (omega arith) leads.1 (reaches links target next rest k rows leads.0 leads.2 (omega arith))

at_most_next : (x y : ℕ) (xs ys : List ℕ) → x ≤ y → (x ≡ y → IsFailoverPathAtMost xs ys) →
    IsFailoverPathAtMost (x ∷ xs) (y ∷ ys)
at_most_next x y xs ys less rest = search rules

pub onward_least : (links : List ℕ) (target k at : ℕ) (rest : List ℕ) → length links ≡ 64 →
    target < 64 → at < 64 → IsRouteLinksAway links target k at → FailoverLinksLeadTo links target at rest →
    length rest ≡ k → IsFailoverPathAtMost (route_path_after links target k at) rest
unfolding route_path_after
onward_least links target zero at rest rows target_fits at_fits away leads long = tt
onward_least links target (suc k) at [] rows target_fits at_fits away leads long =
    absurd (omega arith)
onward_least links target (suc k) at (next ∷ rest) rows target_fits at_fits away leads long =
    let step = next_step links target k at rows target_fits at_fits away in
    at_most_next _ next _ rest
    (step.least next leads.1 (reaches links target next rest k rows leads.0 leads.2 (omega arith)))
    (λ same. onward_least links target k _ rest rows target_fits step.below step.away
    (subst (λ (y : ℕ). FailoverLinksLeadTo links target y rest) (sym same) leads.2) (omega arith))
