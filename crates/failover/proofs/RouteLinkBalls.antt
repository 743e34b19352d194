-- The switches at most k links away from a target, and the least of them that is one link nearer.
use Rattle.std.proofs.Common.{◌&&◌, ◌<◌, ◌==◌, ◌^◌, ◌||◌, ◌∙◌, ◌≡◌, ◌≤◌, ◌⊎◌, Bool, List, arith, bit_and, false, get_or, inl, inr, length, not, refl, suc, sym, true, zero, ℕ, rules}
use Rattle.base.proofs.Exports.{and_le_r, and_parts, cases_eq, cases_lt, has-and, has-or, has-pow_other, has-pow_same, has-zero, has_least, least_below, least_lt, mask_where_at, mask_where_lt, nat_tests, or_lt, pow_below, some_of}
use Rattle.base.specs.Exports.{has, least_in_number_set}
use Rattle.failover.specs.Exports.{IsRouteLinksAway, route_ball, grown_route_ball, least_route_neighbour_in}

-- ---- Bool

-- a test that isn't true is false
pub false_of : (b : Bool) → (b ≡ true → ⊥) → b ≡ false
false_of true h = absurd (h refl)
false_of false h = refl

pub true_of : (b : Bool) → (b ≡ false → ⊥) → b ≡ true
true_of true h = refl
true_of false h = absurd (h refl)

pub apart_tests : {P : Type 0} (b : Bool) → b ≡ true → b ≡ false → P
apart_tests b holds fails = absurd (false_is_not_true (sym fails ∙ holds)) where
  false_is_not_true : false ≡ true → ⊥
  false_is_not_true e = cc

pub or_cases : (a b : Bool) → (a || b) ≡ true → (a ≡ true) ⊎ (b ≡ true)
or_cases true b h = inl refl
or_cases false b h = inr h

pub or_left : (a b : Bool) → a ≡ true → (a || b) ≡ true
or_left true b h = refl
or_left false b h = apart_tests false h refl

pub or_right : (a b : Bool) → b ≡ true → (a || b) ≡ true
or_right true b h = refl
or_right false b h = h

pub and_both : (a b : Bool) → a ≡ true → b ≡ true → (a && b) ≡ true
and_both true b p q = q
and_both false b p q = apart_tests false p refl

-- ---- one widening

meets_of : (m : ℕ) → 0 < m → not (m == 0) ≡ true
meets_of m some = grind (arith, nat_tests)

positive : (m k : ℕ) → has m k ≡ true → 0 < m
positive zero k h = apart_tests _ h (has-zero k)
positive (suc m) k h = omega arith

pub wider_lt : (links : List ℕ) (within : ℕ) → length links ≤ 64 → within < 2 ^ 64 →
    grown_route_ball links within < 2 ^ 64
unfolding grown_route_ball
wider_lt links within rows fits = or_lt 64 _ _ fits (mask_where_lt _ 0 links 64 (omega arith))

has_wider : (links : List ℕ) (within at : ℕ) → at < length links → has (grown_route_ball links within) at
    ≡ (has within at || not (bit_and (get_or links at 0) within == 0))
unfolding grown_route_ball
has_wider links within at below = search (rules, has-or, mask_where_at)

pub wider_keeps : (links : List ℕ) (within at : ℕ) → at < length links → has within at ≡ true →
    has (grown_route_ball links within) at ≡ true
wider_keeps links within at below h = has_wider links within at below ∙ or_left _ _ h

-- one of those that have a link into the set
pub wider_meets : (links : List ℕ) (within at : ℕ) → at < length links →
    0 < bit_and (get_or links at 0) within → has (grown_route_ball links within) at ≡ true
wider_meets links within at below some =
    has_wider links within at below ∙ or_right _ _ (meets_of _ some)

-- a link into the set
pub wider_gains : (links : List ℕ) (within at next : ℕ) → at < length links →
    has (get_or links at 0) next ≡ true → has within next ≡ true →
    has (grown_route_ball links within) at ≡ true
wider_gains links within at next below link h =
    wider_meets links within at below (positive _ next (rw (has-and, link, h) refl))

-- the least switch of the set to which this one has a link
pub record IsNearer (links : List ℕ) (within at next : ℕ) : Type 0 where
  pub below : next < 64
  pub joined : has (get_or links at 0) next ≡ true
  pub inside : has within next ≡ true
  pub least : (other : ℕ) → has (get_or links at 0) other ≡ true → has within other ≡ true →
      next ≤ other

least_of : (links : List ℕ) (within at : ℕ) → within < 2 ^ 64 →
    0 < bit_and (get_or links at 0) within → IsNearer links within at
    (least_route_neighbour_in links within at)
unfolding least_route_neighbour_in
least_of links within at fits some =
    let row = get_or links at 0 in
    let small : bit_and row within < 2 ^ 64 = omega (arith, and_le_r row within) in
    let both = sym (has-and row within _) ∙ has_least _ some small in record {
      below = least_lt _ some small;
      joined = (and_parts _ _ both).0;
      inside = (and_parts _ _ both).1;
      least = λ other link member. elim (cases_lt other (least_in_number_set (bit_and row within))) [
        | inl below ↦ apart_tests _ (rw (has-and, link, member) refl)
            (least_below _ some small other below)
        | inr above ↦ above
      ];
    }

-- a switch that the widening adds has a link into the set
pub added_is_nearer : (links : List ℕ) (within at : ℕ) → at < length links → within < 2 ^ 64 →
    has (grown_route_ball links within) at ≡ true → has within at ≡ false →
    IsNearer links within at (least_route_neighbour_in links within at)
added_is_nearer links within at below fits added absent =
    elim (or_cases _ _ (sym (has_wider links within at below) ∙ added)) [
      | inl member ↦ apart_tests _ member absent
      | inr meets ↦ least_of links within at fits (some_of _ meets)
    ]

-- ---- balls

pub ball_lt : (links : List ℕ) (target k : ℕ) → length links ≤ 64 → target < 64 →
    route_ball links target k < 2 ^ 64
unfolding route_ball
ball_lt links target zero rows below = pow_below target 64 below
ball_lt links target (suc k) rows below = wider_lt links _ rows (ball_lt links target k rows below)

pub ball_grows : (links : List ℕ) (target k at : ℕ) → at < length links →
    has (route_ball links target k) at ≡ true → has (route_ball links target (suc k)) at ≡ true
unfolding route_ball
ball_grows links target k at below h = wider_keeps links _ at below h

pub ball_gains : (links : List ℕ) (target k at next : ℕ) → at < length links →
    has (get_or links at 0) next ≡ true → has (route_ball links target k) next ≡ true →
    has (route_ball links target (suc k)) at ≡ true
unfolding route_ball
ball_gains links target k at next below link h = wider_gains links _ at next below link h

-- a switch without links has itself alone
only_target : (target at : ℕ) → has (2 ^ target) at ≡ true → at ≡ target
only_target target at h = search (rules, cases_eq, has-pow_other)

pub at_target : (links : List ℕ) (target at : ℕ) → has (route_ball links target 0) at ≡ true → at ≡ target
unfolding route_ball
at_target links target at h = only_target target at h

pub has_target : (links : List ℕ) (target : ℕ) → has (route_ball links target 0) target ≡ true
unfolding route_ball
has_target links target = has-pow_same target

-- from k + 1 links away to the least switch that is k links away
pub record IsStep (links : List ℕ) (target k at next : ℕ) : Type 0 where
  pub below : next < 64
  pub joined : has (get_or links at 0) next ≡ true
  pub away : IsRouteLinksAway links target k next
  pub least : (other : ℕ) → has (get_or links at 0) other ≡ true →
      has (route_ball links target k) other ≡ true → next ≤ other

step_from : (links : List ℕ) (target k at next : ℕ) → at < length links →
    IsRouteLinksAway links target (suc k) at → IsNearer links (route_ball links target k) at next →
    IsStep links target k at next
step_from links target k at next below away near = record {
  below = near.below;
  joined = near.joined;
  away = record {
    here = near.inside;
    later = λ j less. false_of _ (λ h. apart_tests _
        (ball_gains links target j at next below near.joined h) (away.later (suc j) (omega arith)));
  };
  least = near.least;
}

pub next_step : (links : List ℕ) (target k at : ℕ) → length links ≡ 64 → target < 64 → at < 64 →
    IsRouteLinksAway links target (suc k) at →
    IsStep links target k at (least_route_neighbour_in links (route_ball links target k) at)
unfolding route_ball
next_step links target k at rows target_fits at_fits away = step_from links target k at _
    (omega arith) away (added_is_nearer links (route_ball links target k) at (omega arith)
    (ball_lt links target k (omega arith) target_fits) away.here (away.later k (omega arith)))
