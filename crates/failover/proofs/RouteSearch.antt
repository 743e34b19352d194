-- How the search ends: with the least path, or where no path is.
use Rattle.std.proofs.Common.{[], ◌&&◌, ◌+◌, ◌-◌, ◌<◌, ◌==◌, ◌∙◌, ◌∷◌, ◌≡◌, ◌≤◌, ◌⊎◌, All, Bool, IfSome, IsSomeAnd, List, None, Option, Some, ap, arith, eqb-true, false, inl, inr, length, nat_eq, nat_lt, option_map, refl, subst, suc, sym, true, zero, ℕ, rules}
use Rattle.base.proofs.Exports.{All-cons, All-nil, cases_lt, length-le_from_distinct_below, list_any, nat_tests}
use Rattle.failover.specs.declared.advert.Advert.{Advert}
use Rattle.base.specs.Exports.{has, switches}
use Rattle.failover.specs.Exports.{IsFailoverPathAtMost, IsRouteLinksAway, IsLeastFailoverPath, IsOutOfFailoverReach, IsFailoverPath, IsFailoverReachable, IsRoute, IsRouteList, FailoverLinksLeadTo, route_ball, first_route, grown_route_ball, failover_known_links, route_ball_links_away, route_path_after, route_of, route_to}
use Rattle.failover.proofs.RouteLinkBalls.{false_of, apart_tests, or_cases}
use Rattle.failover.proofs.RouteLeastPaths.{length-onward, onward_leads, onward_distinct, onward_least, reaches}

-- ---- paths

switch_below : (links : List ℕ) (target at : ℕ) (rest : List ℕ) → at < 64 →
    FailoverLinksLeadTo links target at rest → (q : ℕ) → list_any (nat_eq q) (at ∷ rest) ≡ true → q < 64
switch_below links target at [] fits leads q h = search (rules, eqb-true)
switch_below links target at (next ∷ rest) fits leads q h =
    elim (or_cases (nat_eq q at) (list_any (nat_eq q) (next ∷ rest)) h) [
      | inl same ↦ (let e = eqb-true q at same in omega arith)
      | inr later ↦ switch_below links target next rest leads.0 leads.2 q later
    ]

all_below : (links : List ℕ) (target at : ℕ) (rest : List ℕ) → at < 64 →
    FailoverLinksLeadTo links target at rest → All (λ x. x < 64) (at ∷ rest)
all_below links target at [] fits leads = All-cons (λ x. x < 64) at [] fits (All-nil (λ x. x < 64))
all_below links target at (next ∷ rest) fits leads =
    All-cons (λ x. x < 64) at (next ∷ rest) fits (all_below links target next rest leads.0 leads.2)

pub path_is_route_list : (links : List ℕ) (from target : ℕ) (path : List ℕ) →
    IsFailoverPath links from target path → IsRouteList path
unfolding IsFailoverPath
path_is_route_list links from target [] path = absurd path
path_is_route_list links from target (first ∷ rest) path = record {
  some = omega arith;
  few = length-le_from_distinct_below (first ∷ rest) 64 path.3
      (switch_below links target first rest path.1 path.2);
  switches = all_below links target first rest path.1 path.2;
  distinct = path.3;
}

pub target_below : (links : List ℕ) (target at : ℕ) (rest : List ℕ) → at < 64 →
    FailoverLinksLeadTo links target at rest → target < 64
target_below links target at [] fits leads = subst (λ (x : ℕ). x < 64) leads fits
target_below links target at (next ∷ rest) fits leads =
    target_below links target next rest leads.0 leads.2

-- ---- what was found is the least path

no_fewer : (links : List ℕ) (target k at : ℕ) (rest : List ℕ) → length links ≡ 64 → at < 64 →
    IsRouteLinksAway links target k at → FailoverLinksLeadTo links target at rest → k ≤ length rest
no_fewer links target k at rest rows fits away leads = elim (cases_lt (length rest) k) [
  | inl short ↦ apart_tests _ (reaches links target at rest (length rest) rows fits leads
      (omega arith)) (away.later (length rest) short)
  | inr long ↦ long
]

fewest_of : (links : List ℕ) (target k from : ℕ) → length links ≡ 64 → from < 64 →
    IsRouteLinksAway links target k from → (other : List ℕ) → IsFailoverPath links from target other →
    k < length other
unfolding IsFailoverPath
fewest_of links target k from rows fits away [] path = absurd path
fewest_of links target k from rows fits away (first ∷ rest) path =
    let leads = subst (λ (x : ℕ). FailoverLinksLeadTo links target x rest) path.0 path.2 in
    omega (arith, no_fewer links target k from rest rows fits away leads)

least_of_all : (links : List ℕ) (target k from : ℕ) → length links ≡ 64 → target < 64 → from < 64 →
    IsRouteLinksAway links target k from → (other : List ℕ) → IsFailoverPath links from target other →
    length other ≡ suc k → IsFailoverPathAtMost (from ∷ route_path_after links target k from) other
unfolding IsFailoverPath
least_of_all links target k from rows target_fits fits away other path long =
    search (rules, onward_least)

found_path : (links : List ℕ) (target k from : ℕ) → length links ≡ 64 → target < 64 → from < 64 →
    IsRouteLinksAway links target k from → IsFailoverPath links from target (from ∷ route_path_after links target k from)
unfolding IsFailoverPath
found_path links target k from rows target_fits fits away = (
  refl,
  fits,
  onward_leads links target k from rows target_fits fits away,
  onward_distinct links target k from rows target_fits fits away,
)

pub found_is_least : (links : List ℕ) (target k from : ℕ) → length links ≡ 64 → target < 64 →
    from < 64 → IsRouteLinksAway links target k from →
    IsLeastFailoverPath links from target (from ∷ route_path_after links target k from)
found_is_least links target k from rows target_fits fits away =
    search (rules, length-onward, found_path, fewest_of, least_of_all)

-- ---- where nothing was found no path is

no_path : (links : List ℕ) (target from : ℕ) → length links ≡ 64 → from < 64 →
    IsOutOfFailoverReach links target from → (path : List ℕ) → IsFailoverPath links from target path → ⊥
unfolding IsFailoverPath IsOutOfFailoverReach
no_path links target from rows fits out [] path = path
no_path links target from rows fits out (first ∷ rest) path =
    let few = (path_is_route_list links from target (first ∷ rest) path).few in
    apart_tests _ (reaches links target from rest 63 rows fits
    (subst (λ (x : ℕ). FailoverLinksLeadTo links target x rest) path.0 path.2) (omega arith))
    (out 63 (omega arith))

pub out_of_reach : (links : List ℕ) (target from : ℕ) → length links ≡ 64 → from < 64 →
    IsOutOfFailoverReach links target from → ¬ IsFailoverReachable links from target
unfolding IsFailoverReachable
out_of_reach links target from rows fits out =
    λ reach. no_path links target from rows fits out reach.0 reach.1

-- ---- the search ends at the first ball that has the switch, or where balls no longer grow

stands_still : (links : List ℕ) (target j i : ℕ) → route_ball links target (suc j) ≡ route_ball links target j →
    route_ball links target (j + i) ≡ route_ball links target j
unfolding route_ball
stands_still links target j zero same = ap (route_ball links target) (omega arith)
stands_still links target j (suc i) same = let next : j + suc i ≡ suc (j + i) = omega arith in
    ap (route_ball links target) next ∙ ap (grown_route_ball links) (stands_still links target j i same) ∙ same

-- if the balls stop growing without the switch, none ever has it
pub still_out : (links : List ℕ) (target j from : ℕ) →
    route_ball links target (suc j) ≡ route_ball links target j →
    ((i : ℕ) → i < suc j → has (route_ball links target i) from ≡ false) → IsOutOfFailoverReach links target from
unfolding IsOutOfFailoverReach
still_out links target j from same before = λ k fits. elim (cases_lt k (suc j)) [
  | inl earlier ↦ before k earlier
  | inr later ↦ (let far : k ≡ j + (k - j) =
      omega arith in ap (λ n. has (route_ball links target n) from) far
      ∙ ap (λ b. has b from) (stands_still links target j (k - j) same) ∙ before j (omega arith))
]

-- the balls grow until they have the switch
grows : (links : List ℕ) (target j k from : ℕ) → IsRouteLinksAway links target (j + suc k) from →
    (grown_route_ball links (route_ball links target j) == route_ball links target j) ≡ false
unfolding route_ball
grows links target j k from away = search (rules, false_of, eqb-true, stands_still)

-- a turn of the search: the switch is here, the balls stop growing, or the rest decides
abbrev turn : Bool → Bool → Option ℕ → Option ℕ
turn here still rest = elim here
    [ true ↦ Some 0 | false ↦ elim still [ true ↦ None | false ↦ option_map suc rest ] ]

ball_links_away-turn : (most : ℕ) (links : List ℕ) (from within : ℕ)
    → route_ball_links_away (suc most) links from within ≡ turn (has within from)
    (grown_route_ball links within == within) (route_ball_links_away most links from (grown_route_ball links within))
unfolding route_ball_links_away
ball_links_away-turn most links from within = refl

turn_here : (here still : Bool) (rest : Option ℕ) → here ≡ true → turn here still rest ≡ Some 0
turn_here true still rest e = refl
turn_here false still rest e = apart_tests false e refl

turn_on : (here still : Bool) (rest : Option ℕ) → here ≡ false → still ≡ false →
    turn here still rest ≡ option_map suc rest
turn_on here still rest e moves = search rules

turn_none : (here still : Bool) (rest : Option ℕ) → here ≡ false → rest ≡ None →
    turn here still rest ≡ None
turn_none here still rest e none = search rules

away_found : (most : ℕ) (links : List ℕ) (target j k from : ℕ) → k < most →
    IsRouteLinksAway links target (j + k) from → route_ball_links_away most links from (route_ball links target j) ≡ Some k
unfolding route_ball
away_found zero links target j k from fits away = absurd (omega arith)
away_found (suc most) links target j zero from fits away =
    ball_links_away-turn most links from (route_ball links target j)
    ∙ turn_here _ _ _ (ap (λ n. has (route_ball links target n) from) (omega arith) ∙ away.here)
away_found (suc most) links target j (suc k) from fits away =
    ball_links_away-turn most links from (route_ball links target j)
    ∙ turn_on _ _ _ (away.later j (omega arith)) (grows links target j k from away)
    ∙ ap (option_map suc) (away_found most links target (suc j) k from (omega arith)
    (subst (λ (n : ℕ). IsRouteLinksAway links target n from) (omega arith) away))

none_found : (most : ℕ) (links : List ℕ) (target j from : ℕ) → j + most ≤ 64 →
    IsOutOfFailoverReach links target from → route_ball_links_away most links from (route_ball links target j) ≡ None
unfolding route_ball_links_away IsOutOfFailoverReach route_ball
none_found zero links target j from fits out = refl
none_found (suc most) links target j from fits out =
    ball_links_away-turn most links from (route_ball links target j) ∙ turn_none _ _ _ (out j (omega arith))
    (none_found most links target (suc j) from (omega arith) out)

-- ---- the route to one target

both_below : (a b : ℕ) → a < 64 → b < 64 → (nat_lt a 64 && nat_lt b 64) ≡ true
both_below a b p q = grind (arith, nat_tests)

guarded : Bool → Option (List ℕ) → Option (List ℕ)
guarded test route = elim test [ true ↦ route | false ↦ None ]

route_to-guarded : (links : List ℕ) (from target : ℕ) → route_to links from target
    ≡ guarded (nat_lt from 64 && nat_lt target 64) (option_map (λ k. from
    ∷ route_path_after links target k from) (route_ball_links_away 64 links from (route_ball links target 0)))
unfolding route_to guarded route_ball
route_to-guarded links from target = refl

guarded_true : (test : Bool) (route : Option (List ℕ)) → test ≡ true → guarded test route ≡ route
unfolding guarded
guarded_true true route e = refl
guarded_true false route e = apart_tests false e refl

guarded_false : (test : Bool) (route : Option (List ℕ)) → (test ≡ true → ⊥) →
    guarded test route ≡ None
unfolding guarded
guarded_false true route h = absurd (h refl)
guarded_false false route h = refl

pub route_to-away : (links : List ℕ) (from target k : ℕ) → from < 64 → target < 64 → k < 64 →
    IsRouteLinksAway links target k from → route_to links from target ≡
    Some (from ∷ route_path_after links target k from)
route_to-away links from target k from_fits target_fits fits away =
    route_to-guarded links from target
    ∙ guarded_true _ _ (both_below from target from_fits target_fits)
    ∙ ap (option_map (λ k. from ∷ route_path_after links target k from)) (away_found 64 links target 0 k
    from fits (subst (λ (n : ℕ). IsRouteLinksAway links target n from) (omega arith) away))

pub route_to-out : (links : List ℕ) (from target : ℕ) → from < 64 → target < 64 →
    IsOutOfFailoverReach links target from → route_to links from target ≡ None
route_to-out links from target from_fits target_fits out =
    search (rules, route_to-guarded, guarded_true, both_below, none_found)

above : (a b : ℕ) → (a < 64 → b < 64 → ⊥) → (nat_lt a 64 && nat_lt b 64) ≡ true → ⊥
above a b h e = h (grind (arith, nat_tests)) (grind (arith, nat_tests))

pub route_to-above : (links : List ℕ) (from target : ℕ) → (from < 64 → target < 64 → ⊥) →
    route_to links from target ≡ None
route_to-above links from target h =
    route_to-guarded links from target ∙ guarded_false _ _ (above from target h)

-- ---- away or out of reach

later_or_away : (links : List ℕ) (target from k : ℕ) →
    ((j : ℕ) → j < k → has (route_ball links target j) from ≡ false) → (b : Bool) →
    has (route_ball links target k) from ≡ b →
    IsRouteLinksAway links target k from ⊎ ((j : ℕ) → j < suc k → has (route_ball links target j) from ≡ false)
later_or_away links target from k before b e = search rules

search_up_to : (links : List ℕ) (target from k : ℕ) →
    ((i : ℕ) × (i < k) × IsRouteLinksAway links target i from)
    ⊎ ((j : ℕ) → j < k → has (route_ball links target j) from ≡ false)
search_up_to links target from zero = inr (λ j less. absurd (omega arith))
search_up_to links target from (suc k) = elim (search_up_to links target from k) [
  | inl found ↦ inl (found.0, omega arith, found.2)
  | inr before ↦ elim (later_or_away links target from k before _ refl)
      [ inl away ↦ inl (k, omega arith, away) | inr later ↦ inr later ]
]

pub away_or_out : (links : List ℕ) (target from : ℕ) →
    ((k : ℕ) × (k < 64) × IsRouteLinksAway links target k from) ⊎ IsOutOfFailoverReach links target from
unfolding IsOutOfFailoverReach
away_or_out links target from = search_up_to links target from 64

-- ---- a way that meets a switch again

pub straight_path : (links : List ℕ) (from target : ℕ) (rest : List ℕ) → length links ≡ 64 →
    from < 64 → FailoverLinksLeadTo links target from rest → IsFailoverReachable links from target
unfolding IsFailoverReachable
straight_path links from target rest rows fits leads =
    elim (search_up_to links target from (suc (length rest))) [
      | inl found ↦ (
        from ∷ route_path_after links target found.0 from,
        found_path links target found.0 from
            rows (target_below links target from rest fits leads) fits found.2,
      )
      | inr none ↦ apart_tests _ (reaches links target from rest (length rest) rows fits leads
          (omega arith)) (none (length rest) (omega arith))
    ]

-- ---- the function gives the defined route

stray : (links : List ℕ) (from target : ℕ) → (from < 64 → target < 64 → ⊥) → (path : List ℕ) →
    IsFailoverPath links from target path → ⊥
unfolding IsFailoverPath
stray links from target h path h5 = search (rules, target_below)

unreachable : (links : List ℕ) (from target : ℕ) → (from < 64 → target < 64 → ⊥) →
    ¬ IsFailoverReachable links from target
unfolding IsFailoverReachable
unreachable links from target h = λ reach. stray links from target h reach.0 reach.1

-- the least path to the target, or none where it isn't reachable
abbrev IsAnswer : List ℕ → ℕ → ℕ → Option (List ℕ) → Type 0
IsAnswer links from target route = IsSomeAnd route (IsLeastFailoverPath links from target)
    ⊎ (¬ IsFailoverReachable links from target × (route ≡ None))

some_answer : (links : List ℕ) (from target : ℕ) (route : Option (List ℕ)) (path : List ℕ) →
    IsLeastFailoverPath links from target path → route ≡ Some path → IsAnswer links from target route
some_answer links from target route path least e = inl (rw e least)

answer_within : (links : List ℕ) (from target : ℕ) → length links ≡ 64 → from < 64 → target < 64 →
    IsAnswer links from target (route_to links from target)
answer_within links from target rows from_fits target_fits = elim (away_or_out links target from) [
  | inl away ↦ some_answer links from target _ _
      (found_is_least links target away.0 from rows target_fits from_fits away.2)
      (route_to-away links from target away.0 from_fits target_fits away.1 away.2)
  | inr out ↦ inr (
    out_of_reach links target from rows from_fits out,
    route_to-out links from target from_fits target_fits out,
  )
]

answer_above : (links : List ℕ) (from target : ℕ) → (from < 64 → target < 64 → ⊥) →
    IsAnswer links from target (route_to links from target)
answer_above links from target h =
    inr (unreachable links from target h, route_to-above links from target h)

route_to_answers : (links : List ℕ) (from target : ℕ) → length links ≡ 64 →
    IsAnswer links from target (route_to links from target)
route_to_answers links from target rows = search (rules, answer_within, answer_above)

abbrev chosen : Option (List ℕ) → Option (List ℕ) → Option (List ℕ)
chosen route rest = elim route [ Some path ↦ Some path | None ↦ rest ]

pub first_route-chosen : (links : List ℕ) (from target : ℕ) (targets : List ℕ) → first_route links
    from (target ∷ targets) ≡ chosen (route_to links from target) (first_route links from targets)
unfolding first_route
first_route-chosen links from target targets = refl

chosen_is_route : (links : List ℕ) (from target : ℕ) (targets : List ℕ)
    (route rest : Option (List ℕ)) → IsAnswer links from target route →
    IsRoute links from targets rest → IsRoute links from (target ∷ targets) (chosen route rest)
unfolding IsRoute
chosen_is_route links from target targets route rest answer later = search rules

no_targets : (links : List ℕ) (from : ℕ) → IsRoute links from [] (first_route links from [])
unfolding IsRoute first_route
no_targets links from = refl

pub first_route_is_route : (links : List ℕ) (from : ℕ) (targets : List ℕ) → length links ≡ 64 →
    IsRoute links from targets (first_route links from targets)
first_route_is_route links from [] rows = no_targets links from
first_route_is_route links from (target ∷ targets) rows =
    rw (first_route-chosen links from target targets) (chosen_is_route links from target targets _ _
    (route_to_answers links from target rows) (first_route_is_route links from targets rows))

-- ---- there is one route

same_lists : (xs ys : List ℕ) → length xs ≡ length ys → IsFailoverPathAtMost xs ys → IsFailoverPathAtMost ys xs → xs ≡ ys
same_lists [] [] long less more = refl
same_lists [] (y ∷ ys) long less more = absurd (omega arith)
same_lists (x ∷ xs) [] long less more = absurd (omega arith)
same_lists (x ∷ xs) (y ∷ ys) long less more = elim less [
  | inl below ↦ elim more [ inl above ↦ absurd (omega arith) | inr same ↦ absurd (omega arith) ]
  | inr same ↦ elim more [
    | inl above ↦ absurd (omega arith)
    | inr again ↦ (let rest = same_lists xs ys (omega arith) same.1 again.1 in let first : x ≡
        y = same.0 in cc)
  ]
]

one_least_path : (links : List ℕ) (from target : ℕ) (a b : List ℕ) →
    IsLeastFailoverPath links from target a → IsLeastFailoverPath links from target b → a ≡ b
one_least_path links from target a b one other =
    let long : length a ≡ length b = omega (arith, one.fewest, other.fewest) in
    same_lists a b long (one.least b other.path (sym long)) (other.least a one.path long)

reached_by : (links : List ℕ) (from target : ℕ) (route : Option (List ℕ)) →
    IsSomeAnd route (IsLeastFailoverPath links from target) → IsFailoverReachable links from target
unfolding IsFailoverReachable
reached_by links from target None least = absurd least
reached_by links from target (Some path) least = (path, least.path)

same_some : (links : List ℕ) (from target : ℕ) (one other : Option (List ℕ)) →
    IsSomeAnd one (IsLeastFailoverPath links from target) →
    IsSomeAnd other (IsLeastFailoverPath links from target) → one ≡ other
same_some links from target one other a b = search (rules, one_least_path)

pub one_route : (links : List ℕ) (from : ℕ) (targets : List ℕ) (one other : Option (List ℕ)) →
    IsRoute links from targets one → IsRoute links from targets other → one ≡ other
unfolding IsRoute
one_route links from [] one other a b = a ∙ sym b
one_route links from (target ∷ targets) one other a b = elim a [
  | inl least ↦ elim b [
    | inl again ↦ same_some links from target one other least again
    | inr none ↦ absurd (none.0 (reached_by links from target one least))
  ]
  | inr missing ↦ elim b [
    | inl least ↦ absurd (missing.0 (reached_by links from target other least))
    | inr none ↦ one_route links from targets one other missing.1 none.1
  ]
]

-- ---- over the known links

pub length-known_links : (adverts : List (Option Advert)) (at near : ℕ) (down : List ℕ) →
    length (failover_known_links adverts at near down) ≡ 64
unfolding failover_known_links switches
length-known_links adverts at near down = refl

pub known_route_is_route : (adverts : List (Option Advert)) (from : ℕ) (targets : List ℕ) (near : ℕ)
    (down : List ℕ) → IsRoute (failover_known_links adverts from near down) from targets
    (route_of adverts from targets near down)
unfolding route_of
known_route_is_route adverts from targets near down =
    first_route_is_route (failover_known_links adverts from near down) from targets
    (length-known_links adverts from near down)

-- ---- target by target

pub first_route-found : (links : List ℕ) (from target : ℕ) (targets route : List ℕ) →
    route_to links from target ≡ Some route → first_route links from (target ∷ targets) ≡ Some route
first_route-found links from target targets route e =
    cc (first_route-chosen links from target targets, e)

pub first_route-missing : (links : List ℕ) (from target : ℕ) (targets : List ℕ) →
    route_to links from target ≡ None →
    first_route links from (target ∷ targets) ≡ first_route links from targets
first_route-missing links from target targets e =
    cc (first_route-chosen links from target targets, e)

pub first_route-none : (links : List ℕ) (from : ℕ) → first_route links from [] ≡ None
unfolding first_route
first_route-none links from = refl

pub none_after : (links : List ℕ) (target k at : ℕ) → 64 ≤ k →
    ((j : ℕ) → j < k → has (route_ball links target j) at ≡ false) → IsOutOfFailoverReach links target at
unfolding IsOutOfFailoverReach
none_after links target k at most before = λ j less. before j (omega arith)

-- ---- a route is a list of distinct switches

least_is_list : (links : List ℕ) (from target : ℕ) (route : Option (List ℕ)) →
    IsSomeAnd route (IsLeastFailoverPath links from target) → IfSome route IsRouteList
least_is_list links from target route least = search (rules, path_is_route_list)

none_is_list : (route : Option (List ℕ)) → route ≡ None → IfSome route IsRouteList
none_is_list route e = subst (λ (r : Option (List ℕ)). IfSome r IsRouteList) (sym e) tt

pub route_is_list : (links : List ℕ) (from : ℕ) (targets : List ℕ) (route : Option (List ℕ)) →
    IsRoute links from targets route → IfSome route IsRouteList
unfolding IsRoute
route_is_list links from [] route h = none_is_list route h
route_is_list links from (target ∷ targets) route h = elim h [
  | inl least ↦ least_is_list links from target route least
  | inr none ↦ route_is_list links from targets route none.1
]
