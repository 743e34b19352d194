-- The loop over the switches of a ball, where each link is known from both its ends.
use Rattle.std.proofs.Common.{◌<◌, ◌^◌, ◌∙◌, ◌≡◌, ◌⊎◌, Bool, List, ap, arith, bit_or, bit_xor, false, get_or, inl, inr, length, refl, sym, true, ℕ, rules}
use Rattle.base.proofs.Exports.{cases_eq, has-or, has-xor_other, has-zero, or_lt, pow_below, same_from_decides, same_masks, xor_lt}
use Rattle.base.specs.Exports.{has}
use Rattle.failover.specs.Exports.{IsRouteBallEdge, grown_route_ball, least_route_neighbour_in}
use Rattle.failover.proofs.RouteLinkBalls.{added_is_nearer, apart_tests, or_cases, or_left, or_right, true_of, wider_gains, wider_keeps, wider_lt}
use Rattle.failover.proofs.RouteRowLoop.{has_less-same, has_both, has_first}

-- each link is known from both its ends
abbrev pub AreBothWays : List ℕ → Type 0
AreBothWays links = (one other : ℕ) →
    has (get_or links one 0) other ≡ has (get_or links other 0) one

-- only switches of the wider ball are there, and all others have a link to a switch that is left
pub record IsWideSoFar (links : List ℕ) (ball wide rest : ℕ) : Type 0 where
  pub wide_fits : wide < 2 ^ 64
  pub rest_fits : rest < 2 ^ 64
  pub inside : (k : ℕ) → k < 64 → has rest k ≡ true → has ball k ≡ true
  pub sound : (j : ℕ) → j < 64 → has wide j ≡ true → has (grown_route_ball links ball) j ≡ true
  pub left : (j : ℕ) → j < 64 → has (grown_route_ball links ball) j ≡ true → (has wide j ≡ true)
      ⊎ ((k : ℕ) × (has (get_or links j 0) k ≡ true) × (has rest k ≡ true))

holds_or_not : (b : Bool) → (b ≡ true) ⊎ (b ≡ false)
holds_or_not true = inl refl
holds_or_not false = inr refl

pub wide_begins : (links : List ℕ) (ball edge : ℕ) → length links ≡ 64 → AreBothWays links
    → ball < 2 ^ 64 → edge < 2 ^ 64 → IsRouteBallEdge links ball edge → IsWideSoFar links ball ball edge
wide_begins links ball edge rows both fits edge_fits is_edge = record {
  wide_fits = fits;
  rest_fits = edge_fits;
  inside = is_edge.inside;
  sound = λ j below h. wider_keeps links ball j (omega arith) h;
  left = λ j below h. elim (holds_or_not (has ball j)) [
    | inl there ↦ inl there
    | inr absent ↦ (let near = added_is_nearer links ball j (omega arith) fits h absent in
        inr (
          least_route_neighbour_in links ball j,
          near.joined,
          true_of _ (λ out. apart_tests _
              (is_edge.inner _ j near.below below near.inside out (both _ j ∙ near.joined)) absent),
        ))
  ];
}

pub wide_goes_on : (links : List ℕ) (ball wide rest at gone : ℕ) → length links ≡ 64
    → AreBothWays links → IsWideSoFar links ball wide rest → has rest at ≡ true → at < 64
    → get_or links at 0 < 2 ^ 64 → gone ≡ 2 ^ at
    → IsWideSoFar links ball (bit_or wide (get_or links at 0)) (bit_xor rest gone)
wide_goes_on links ball wide rest at gone rows both so_far here fits row_fits goes = rw goes (record {
  wide_fits = or_lt 64 _ _ so_far.wide_fits row_fits;
  rest_fits = xor_lt 64 _ _ so_far.rest_fits (pow_below at 64 fits);
  inside = λ k below h. elim (cases_eq k at) [
    | inl same ↦ apart_tests _ h (ap (has (bit_xor rest (2 ^ at))) same ∙ has_less-same rest at here)
    | inr apart ↦ so_far.inside k below (sym (has-xor_other rest at k apart) ∙ h)
  ];
  sound = λ j below h. elim (or_cases _ _ (sym (has-or wide (get_or links at 0) j) ∙ h)) [
    | inl there ↦ so_far.sound j below there
    | inr link ↦ wider_gains links ball j at (omega arith) (both j at ∙ link)
        (so_far.inside at fits here)
  ];
  left = λ j below h. elim (so_far.left j below h) [
    | inl there ↦ inl (has-or wide (get_or links at 0) j ∙ or_left _ _ there)
    | inr more ↦ elim (cases_eq more.0 at) [
      | inl same ↦ inl (has-or wide (get_or links at 0) j ∙ or_right _ _
          (both at j ∙ ap (has (get_or links j 0)) (sym same) ∙ more.1))
      | inr apart ↦ inr (more.0, more.1, has-xor_other rest at more.0 apart ∙ more.2)
    ]
  ];
})

pub wide_ends : (links : List ℕ) (ball wide rest : ℕ) → length links ≡ 64 → ball < 2 ^ 64
    → IsWideSoFar links ball wide rest → rest ≡ 0 → wide ≡ grown_route_ball links ball
wide_ends links ball wide rest rows fits so_far none =
    same_masks wide _ so_far.wide_fits (wider_lt links ball (omega arith) fits)
    (λ j below. same_from_decides {P = has (grown_route_ball links ball) j ≡ true} _ _ (
      so_far.sound j below,
      λ h. elim (so_far.left j below h) [
        | inl there ↦ there
        | inr more ↦ apart_tests _ more.2 (ap (λ n. has n more.0) none ∙ has-zero more.0)
      ],
    ) (λ t. t, λ t. t))

-- ---- edges

pub edge_first : (links : List ℕ) (ball : ℕ) → IsRouteBallEdge links ball ball
edge_first links ball = search rules

-- what a widening adds is the edge of the wider ball
pub edge_next : (links : List ℕ) (ball wide : ℕ) → length links ≡ 64 → AreBothWays links →
    wide ≡ grown_route_ball links ball → IsRouteBallEdge links wide (bit_xor ball wide)
edge_next links ball wide rows both e =
    search (rules, holds_or_not, wider_keeps, has_first, wider_gains, has_both)
