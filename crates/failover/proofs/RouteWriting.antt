-- The route as it is written down.
use Rattle.std.proofs.Common.{[], ◌++◌, ◌+◌, ◌-◌, ◌<◌, ◌^◌, ◌∙◌, ◌∷◌, ◌≡◌, ◌≤◌, List, Some, add-one, ap, append_assoc, arith, bit_and, drop, drop-drop, false, get_or, get_or-drop, get_or-set_other, get_or-set_same, length, length-drop, length-take, refl, replicate, set, subst, suc, sym, take, take_all, take_at, zero, ℕ, rules}
use Rattle.base.proofs.Exports.{cases_eq, set-append_seam, take_more}
use Rattle.base.specs.Exports.{has}
use Rattle.failover.specs.Exports.{AreRouteBalls, IsRouteLinksAway, IsOutOfFailoverReach, IsRouteList, route_ball, grown_route_ball, least_route_neighbour_in, route_path_after, route_path_by_balls, route_to}
use Rattle.failover.proofs.RouteLinkBalls.{wider_meets}
use Rattle.failover.proofs.RouteSearch.{still_out, found_is_least, path_is_route_list, route_to-away}

pub length-along : (links balls : List ℕ) (k at : ℕ) → length (route_path_by_balls links balls k at) ≡ k
unfolding route_path_by_balls
length-along links balls zero at = refl
length-along links balls (suc k) at = ap suc (length-along links balls k _)

-- ---- balls that are kept

pub no_balls : (links : List ℕ) (target : ℕ) (balls : List ℕ) → AreRouteBalls links target balls 0
unfolding AreRouteBalls
no_balls links target balls = λ j less. absurd (omega arith)

pub fewer_balls : (links : List ℕ) (target : ℕ) (balls : List ℕ) (k : ℕ) →
    AreRouteBalls links target balls (suc k) → AreRouteBalls links target balls k
unfolding AreRouteBalls
fewer_balls links target balls k kept = λ j less. kept j (omega arith)

pub last_ball : (links : List ℕ) (target : ℕ) (balls : List ℕ) (k : ℕ) →
    AreRouteBalls links target balls (suc k) → get_or balls k 0 ≡ route_ball links target k
unfolding AreRouteBalls
last_ball links target balls k kept = kept k (omega arith)

pub along-onward : (links balls : List ℕ) (target k at : ℕ) → AreRouteBalls links target balls k →
    route_path_by_balls links balls k at ≡ route_path_after links target k at
unfolding route_path_by_balls route_path_after
along-onward links balls target zero at kept = refl
along-onward links balls target (suc k) at kept = rw (last_ball links target balls k kept)
    (ap (λ rest. least_route_neighbour_in links (route_ball links target k) at ∷ rest) (along-onward links balls
    target k _ (fewer_balls links target balls k kept)))

-- ---- what was found may be written down

pub is_route_list : (links balls : List ℕ) (target k from : ℕ) → length links ≡ 64 → target < 64 →
    from < 64 → IsRouteLinksAway links target k from → AreRouteBalls links target balls k →
    IsRouteList (from ∷ route_path_by_balls links balls k from)
is_route_list links balls target k from rows target_fits from_fits away kept =
    rw (along-onward links balls target k from kept) (path_is_route_list links from target _
    (found_is_least links target k from rows target_fits from_fits away).path)

pub route_to-along : (links balls : List ℕ) (target k from : ℕ) → length links ≡ 64 → target < 64 →
    from < 64 → IsRouteLinksAway links target k from → AreRouteBalls links target balls k →
    route_to links from target ≡ Some (from ∷ route_path_by_balls links balls k from)
route_to-along links balls target k from rows target_fits from_fits away kept =
    let few = (is_route_list links balls target k from rows target_fits from_fits away kept).few in
    let long = length-along links balls k from in
    route_to-away links from target k from_fits target_fits (omega arith) away
    ∙ ap (λ rest. Some (from ∷ rest)) (sym (along-onward links balls target k from kept))

-- ---- one switch more

pub left_at : (route : List ℕ) (k y : ℕ) (ys : List ℕ) → drop k route ≡ y ∷ ys →
    (k < length route) × (get_or route k 0 ≡ y) × (drop (k + 1) route ≡ ys)
left_at route k y ys e =
    let long : length (y ∷ ys) + k ≡ length route =
    omega (arith, ap length (sym e), length-drop k route) in (
      omega arith,
      ap (λ n. get_or route n 0) (omega arith) ∙ sym (get_or-drop k route 0 0)
          ∙ ap (λ xs. get_or xs 0 0) e,
      sym (drop-drop 1 k route) ∙ ap (drop 1) e,
    )

pub below_in : (route : List ℕ) (k y : ℕ) (ys : List ℕ) → IsRouteList route →
    drop k route ≡ y ∷ ys → y < 64
below_in route k y ys list e = let here =
    left_at route k y ys e in subst (λ (x : ℕ). x < 64) here.1 (list.switches k 0 here.0)

pub along-next : (links balls : List ℕ) (left at m : ℕ) → left ≡ suc m
    → route_path_by_balls links balls left at ≡ least_route_neighbour_in links (get_or balls m 0) at
    ∷ route_path_by_balls links balls m (least_route_neighbour_in links (get_or balls m 0) at)
unfolding route_path_by_balls
along-next links balls left at m e = rw e refl

pub written_more : (route switches : List ℕ) (k next : ℕ) → length route ≤ 64 → k + 1 < length route
    → next ≡ get_or route (k + 1) 0 → switches ≡ take (k + 1) route ++ replicate (63 - k) 0
    → set switches (k + 1) next ≡ take (k + 1 + 1) route ++ replicate (63 - (k + 1)) 0
written_more route switches k next few below e written =
    let front = take (k + 1) route in
    let rest = replicate (63 - (k + 1)) 0 in
    let long : length front ≡ k + 1 = omega (arith, length-take (k + 1) route) in
    let fewer : 63 - k ≡ suc (63 - (k + 1)) = omega arith in
    let zeros : replicate (63 - k) 0 ≡ 0 ∷ rest = ap (λ (n : ℕ). replicate n 0) fewer in
    ap (λ s. set s (k + 1) next) (written ∙ ap (λ z. front ++ z) zeros)
    ∙ ap (λ n. set (front ++ 0 ∷ rest) n next) (sym long) ∙ set-append_seam front 0 rest next
    ∙ sym (append_assoc front (next ∷ []) rest)
    ∙ ap (λ f. f ++ rest) (ap (λ x. front ++ x ∷ []) e ∙ sym (take_more route (k + 1) 0 below))

-- ---- the whole of it

pub whole_front : (route switches : List ℕ) (k : ℕ) → length route ≡ k + 1 →
    switches ≡ take (k + 1) route ++ replicate (63 - k) 0 → switches ≡ route ++ replicate (63 - k) 0
whole_front route switches k long written = cc (written, take_all (k + 1) route (omega arith))

pub written_route : (route switches : List ℕ) (k : ℕ) → length route ≡ k + 1 →
    switches ≡ take (k + 1) route ++ replicate (63 - k) 0 → take (k + 1) switches ≡ route
written_route route switches k long written =
    ap (take (k + 1)) (whole_front route switches k long written) ∙ take_at route _ (k + 1) long

-- ---- balls that a turn keeps

pub more_balls : (links : List ℕ) (target : ℕ) (balls : List ℕ) (k kept : ℕ) → k < length balls →
    kept ≡ route_ball links target k → AreRouteBalls links target balls k →
    AreRouteBalls links target (set balls k kept) (k + 1)
unfolding AreRouteBalls
more_balls links target balls k kept there e before =
    search (rules, cases_eq, get_or-set_same, get_or-set_other)

pub first_ball : (links : List ℕ) (target : ℕ) → 2 ^ target ≡ route_ball links target 0
unfolding route_ball
first_ball links target = refl

pub next_ball : (links : List ℕ) (target k within wide : ℕ) → within ≡ route_ball links target k →
    wide ≡ grown_route_ball links within → wide ≡ route_ball links target (k + 1)
unfolding route_ball
next_ball links target k within wide here e = rw (e, here, add-one) refl

pub before_more : (links : List ℕ) (target k within from : ℕ) → within ≡ route_ball links target k →
    has within from ≡ false → ((j : ℕ) → j < k → has (route_ball links target j) from ≡ false) → (j : ℕ) →
    j < k + 1 → has (route_ball links target j) from ≡ false
before_more links target k within from here absent before = search (rules, cases_eq)

-- a switch that isn't in the ball, and has a link into it
pub next_away : (links : List ℕ) (target k within from : ℕ) → from < length links →
    within ≡ route_ball links target k → 0 < bit_and (get_or links from 0) within →
    has within from ≡ false → ((j : ℕ) → j < k → has (route_ball links target j) from ≡ false) →
    IsRouteLinksAway links target (k + 1) from
next_away links target k within from below here meets absent before =
    search (rules, next_ball, wider_meets)

pub no_more : (links : List ℕ) (target k within wide from : ℕ) → within ≡ route_ball links target k →
    wide ≡ grown_route_ball links within → wide ≡ within → has within from ≡ false →
    ((j : ℕ) → j < k → has (route_ball links target j) from ≡ false) → IsOutOfFailoverReach links target from
unfolding route_ball
no_more links target k within wide from here e still absent before = search (rules, still_out)
