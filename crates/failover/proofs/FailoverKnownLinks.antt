-- The rows of known links.
use Rattle.std.proofs.Common.{[], ◌&&◌, ◌+◌, ◌<◌, ◌==◌, ◌↔◌, ◌∙◌, ◌∷◌, ◌≡◌, ◌≢◌, ◌≤◌, ◌⊎◌, Bool, IsTrue, List, None, Option, ap, arith, eq-eqb, eqb-true, false, get_or, get_or-set_other, get_or-set_same, inl, inr, length, length-set, map, nat_le, not, refl, set, sym, true, ℕ, rules}
use Rattle.base.proofs.Exports.{and_parts, cases_lt, get_or-map, get_or-switches, get_or_past, has-zero, has_mask, has_mask_past, length-map, length-switches, nat_tests, same_sets}
use Rattle.failover.specs.declared.advert.Advert.{Advert}
use Rattle.base.specs.Exports.{has, small_number_mask, number_set_where, switches}
use Rattle.failover.specs.Exports.{IsAdvertDatabase, IsFailoverTargetIsolated, link_set_has, is_failover_target_isolated, is_known_route_link, failover_known_links, route_links_at, advertised_links_of_each, neighbours_by_adverts, advert_names_neighbour, neighbours_named_by_advert}
use Rattle.failover.proofs.RouteLinkBalls.{and_both, false_of}
use Rattle.failover.proofs.FailoverLinkSets.{link_set_has-turned}
use Rattle.failover.proofs.RouteWiderLoop.{AreBothWays}

mask_where_none : {X : Type 0} (test : X → Bool) (k : ℕ) (xs : List X)
    → ((x : X) → test x ≡ false) → number_set_where test k xs ≡ 0
unfolding number_set_where
mask_where_none test k [] none = refl
mask_where_none test k (x ∷ xs) none = rw (none x, mask_where_none test (k + 1) xs none) refl

never : (a b c d : Bool) → b ≡ false → (a && b && c && d) ≡ false
never true b c d e = rw e refl
never false b c d e = refl

strange : (neighbours down : List ℕ) (one : ℕ) → length neighbours ≤ one → (other : ℕ) →
    is_known_route_link neighbours down one other ≡ false
unfolding is_known_route_link
strange neighbours down one past other =
    never _ _ _ _ (ap (λ row. has row other) (get_or_past neighbours one 0 past) ∙ has-zero other)

is_zero : (n : ℕ) → n ≡ 0 → true ≡ (n == 0)
is_zero n e = grind (arith, nat_tests)

at_least : (n : ℕ) → 64 ≤ n → nat_le 64 n ≡ true
at_least n past = grind (arith, nat_tests)

pub no_row_past : (neighbours down : List ℕ) (one : ℕ) → length neighbours ≡ 64 → 64 ≤ one →
    nat_le 64 one ≡ (route_links_at neighbours down one == 0)
unfolding small_number_mask
no_row_past neighbours down one rows past = search (rules, mask_where_none, strange)

-- ---- rows of links

pub length-link_rows : (neighbours down : List ℕ) → length (advertised_links_of_each neighbours down) ≡ 64
unfolding advertised_links_of_each
length-link_rows neighbours down = length-map switches (route_links_at neighbours down) ∙ length-switches

pub row_of : (neighbours down : List ℕ) (one : ℕ) → one < 64 →
    get_or (advertised_links_of_each neighbours down) one 0 ≡ route_links_at neighbours down one
unfolding advertised_links_of_each
row_of neighbours down one below =
    get_or-map (route_links_at neighbours down) switches one 0 0 (omega (arith, length-switches))
    ∙ ap (route_links_at neighbours down) (get_or-switches one below)

has_row : (neighbours down : List ℕ) (one other : ℕ) → one < 64 → other < 64 →
    has (get_or (advertised_links_of_each neighbours down) one 0) other ≡ is_known_route_link neighbours down one other
has_row neighbours down one other one_fits other_fits = cc
    (row_of neighbours down one one_fits, has_mask (is_known_route_link neighbours down one) other other_fits)

row_past : (neighbours down : List ℕ) (one other : ℕ) → (one < 64 → other < 64 → ⊥) →
    has (get_or (advertised_links_of_each neighbours down) one 0) other ≡ false
row_past neighbours down one other past = elim (cases_lt one 64) [
  | inl below ↦ ap (λ row. has row other) (row_of neighbours down one below)
      ∙ has_mask_past (is_known_route_link neighbours down one) other
      (elim (cases_lt other 64) [ inl fits ↦ absurd (past below fits) | inr more ↦ more ])
  | inr more ↦ ap (λ row. has row other) (get_or_past (advertised_links_of_each neighbours down) one 0
      (omega (arith, length-link_rows neighbours down))) ∙ has-zero other
]

swapped : (a b c d : Bool) → (a && b && c && d) ≡ (a && c && b && d)
swapped a b c d = search rules

pub turned_number : (x y : ℕ) → (x == y) ≡ (y == x)
turned_number x y = grind (arith, nat_tests)

link_turned : (neighbours down : List ℕ) (one other : ℕ) →
    is_known_route_link neighbours down one other ≡ is_known_route_link neighbours down other one
unfolding is_known_route_link
link_turned neighbours down one other = search (rules, turned_number, link_set_has-turned)

pub row_turned : (neighbours down : List ℕ) → AreBothWays (advertised_links_of_each neighbours down)
row_turned neighbours down one other = elim (both_or_not one other) [
  | inl fit ↦ has_row neighbours down one other fit.0 fit.1
      ∙ link_turned neighbours down one other ∙ sym (has_row neighbours down other one fit.1 fit.0)
  | inr past ↦ row_past neighbours down one other past
      ∙ sym (row_past neighbours down other one (λ p q. past q p))
] where
  both_or_not : (one other : ℕ) → ((one < 64) × (other < 64)) ⊎ (one < 64 → other < 64 → ⊥)
  both_or_not one other = elim (cases_lt one 64) [
    | inl p ↦ elim (cases_lt other 64)
        [ inl q ↦ inl (p, q) | inr q ↦ inr (λ _ r. absurd (omega arith)) ]
    | inr p ↦ inr (λ r _. absurd (omega arith))
  ]

-- ---- known links

pub has_known : (adverts : List (Option Advert)) (at near : ℕ) (down : List ℕ) (one other : ℕ) →
    one < 64 → other < 64 → has (get_or (failover_known_links adverts at near down) one 0) other ≡
    is_known_route_link (neighbours_by_adverts adverts at near) down one other
unfolding failover_known_links advertised_links_of_each
has_known adverts at near down one other = has_row (neighbours_by_adverts adverts at near) down one other

known_past : (adverts : List (Option Advert)) (at near : ℕ) (down : List ℕ) (one other : ℕ) →
    (one < 64 → other < 64 → ⊥) →
    has (get_or (failover_known_links adverts at near down) one 0) other ≡ false
unfolding failover_known_links advertised_links_of_each
known_past adverts at near down one other = row_past (neighbours_by_adverts adverts at near) down one other

pub known_turned : (adverts : List (Option Advert)) (at near : ℕ) (down : List ℕ) (one other : ℕ) →
    has (get_or (failover_known_links adverts at near down) one 0) other ≡
    has (get_or (failover_known_links adverts at near down) other 0) one
unfolding failover_known_links advertised_links_of_each
known_turned adverts at near down = row_turned (neighbours_by_adverts adverts at near) down

-- what is held, with the neighbours that a switch sees itself
pub named_links_held : (adverts : List (Option Advert)) (named : List ℕ) (at near : ℕ)
    (neighbours : List ℕ) → IsAdvertDatabase adverts named → neighbours ≡ set named at near →
    neighbours ≡ neighbours_by_adverts adverts at near
unfolding neighbours_by_adverts
named_links_held adverts named at near neighbours held e = cc (e, held.neighbours)

-- ---- isolated targets

length-told_links : (adverts : List (Option Advert)) (at near : ℕ) →
    length (neighbours_by_adverts adverts at near) ≡ length adverts
unfolding neighbours_by_adverts
length-told_links adverts at near =
    length-set (map neighbours_named_by_advert adverts) at near ∙ length-map adverts neighbours_named_by_advert

-- a row without switches
bare_row : (adverts : List (Option Advert)) (at near : ℕ) (down : List ℕ) (target : ℕ) →
    length adverts ≡ 64 → ((one : ℕ) →
    has (get_or (failover_known_links adverts at near down) one 0) target ≡ true → ⊥) → (other : ℕ) →
    has (route_links_at (neighbours_by_adverts adverts at near) down target) other ≡ false
bare_row adverts at near down target rows linkless other = elim (cases_lt other 64) [
  | inl below ↦ has_mask (is_known_route_link (neighbours_by_adverts adverts at near) down target) other below
      ∙ elim (cases_lt target 64) [
        | inl fits ↦ sym (has_known adverts at near down target other fits below)
            ∙ known_turned adverts at near down target other ∙ false_of _ (linkless other)
        | inr past ↦ strange (neighbours_by_adverts adverts at near) down target
            (omega (arith, length-told_links adverts at near)) other
      ]
  | inr past ↦ has_mask_past (is_known_route_link (neighbours_by_adverts adverts at near) down target) other past
]

bare_known : (adverts : List (Option Advert)) (at near : ℕ) (down : List ℕ) (target one : ℕ) →
    target < 64 → route_links_at (neighbours_by_adverts adverts at near) down target ≡ 0 →
    has (get_or (failover_known_links adverts at near down) target 0) one ≡ false
unfolding failover_known_links advertised_links_of_each
bare_known adverts at near down target one fits bare =
    cc (row_of (neighbours_by_adverts adverts at near) down target fits, bare, has-zero one)

joined_row : (adverts : List (Option Advert)) (at near : ℕ) (down : List ℕ) (target : ℕ) →
    route_links_at (neighbours_by_adverts adverts at near) down target ≡ 0 → (one : ℕ) →
    has (get_or (failover_known_links adverts at near down) one 0) target ≡ true → ⊥
joined_row adverts at near down target bare one joined =
    search (rules, known_turned, bare_known, known_past)

not_test : (x y : ℕ) → x ≢ y → not (x == y) ≡ true
not_test x y apart = grind (arith, nat_tests)

apart_of : (x y : ℕ) → not (x == y) ≡ true → x ≢ y
apart_of x y h = grind (arith, nat_tests)

pub isolated_tells : (adverts : List (Option Advert)) (at target near : ℕ) (down : List ℕ) →
    length adverts ≡ 64 → IsTrue (is_failover_target_isolated adverts at target near down) ↔
    IsFailoverTargetIsolated (failover_known_links adverts at near down) at target
unfolding is_failover_target_isolated
isolated_tells adverts at target near down rows = (
  (λ h. record {
    other = apart_of target at (and_parts _ _ h).0;
    linkless = λ one joined. joined_row adverts at near down target
        (eqb-true _ 0 (and_parts _ _ h).1) one joined;
  }),
  (λ isolated. and_both _ _ (not_test target at isolated.other) (eq-eqb _ 0 (same_sets _ 0 (λ other.
      bare_row adverts at near down target rows isolated.linkless other ∙ sym (has-zero other))))),
)

pub isolated_is : (adverts : List (Option Advert)) (at target near : ℕ)
    (down neighbours : List ℕ) (answer : Bool) → neighbours ≡ neighbours_by_adverts adverts at near →
    answer ≡ (route_links_at neighbours down target == 0) → target ≢ at →
    answer ≡ is_failover_target_isolated adverts at target near down
unfolding is_failover_target_isolated
isolated_is adverts at target near down neighbours answer e linkless apart =
    rw (not_test target at apart) (linkless ∙ ap (λ t. route_links_at t down target == 0) e)

pub isolated_answer : (adverts : List (Option Advert)) (at target near : ℕ) (down : List ℕ)
    (answer : Bool) → length adverts ≡ 64 → answer ≡ is_failover_target_isolated adverts at target near down →
    IsTrue answer ↔ IsFailoverTargetIsolated (failover_known_links adverts at near down) at target
isolated_answer adverts at target near down answer rows same = rw same
    (isolated_tells adverts at target near down rows)

-- ---- what each switch names

told_own : (adverts : List (Option Advert)) (at near : ℕ) → length adverts ≡ 64 → at < 64 →
    get_or (neighbours_by_adverts adverts at near) at 0 ≡ near
unfolding neighbours_by_adverts
told_own adverts at near rows fits = get_or-set_same (map neighbours_named_by_advert adverts) at near 0
    (omega (arith, length-map adverts neighbours_named_by_advert, rows))

told_other : (adverts : List (Option Advert)) (at near origin other : ℕ) → length adverts ≡ 64 →
    origin < 64 → origin ≢ at → has (get_or (neighbours_by_adverts adverts at near) origin 0) other ≡
    advert_names_neighbour adverts origin other
unfolding neighbours_by_adverts advert_names_neighbour
told_other adverts at near origin other rows fits apart =
    ap (λ row. has row other) (get_or-set_other (map neighbours_named_by_advert adverts) at origin near 0 apart
    ∙ get_or-map neighbours_named_by_advert adverts origin None 0 (omega (arith, rows)))

link_test : (neighbours down : List ℕ) (one other : ℕ) (a b : Bool) → one ≢ other →
    has (get_or neighbours one 0) other ≡ a → has (get_or neighbours other 0) one ≡ b →
    is_known_route_link neighbours down one other ≡ (a && b && not (link_set_has down one other))
unfolding is_known_route_link
link_test neighbours down one other a b apart p q = rw (not_test one other apart, p, q) refl

pub own_link : (adverts : List (Option Advert)) (at near : ℕ) (down : List ℕ) (other : ℕ) →
    length adverts ≡ 64 → at < 64 → other < 64 → at ≢ other →
    has (get_or (failover_known_links adverts at near down) at 0) other ≡
    (has near other && advert_names_neighbour adverts other at && not (link_set_has down at other))
own_link adverts at near down other rows fits other_fits apart =
    search (rules, has_known, link_test, told_own, told_other)

pub link_elsewhere : (adverts : List (Option Advert)) (at near : ℕ) (down : List ℕ) (one other : ℕ)
    → length adverts ≡ 64 → one < 64 → other < 64 → one ≢ other → one ≢ at → other ≢ at
    → has (get_or (failover_known_links adverts at near down) one 0) other ≡ (advert_names_neighbour adverts one
    other && advert_names_neighbour adverts other one && not (link_set_has down one other))
link_elsewhere adverts at near down one other rows one_fits other_fits apart one_apart other_apart =
    search (rules, has_known, link_test, told_other)
