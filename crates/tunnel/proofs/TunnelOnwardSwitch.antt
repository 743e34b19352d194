-- The switch after the one where a packet is.
use Rattle.std.proofs.Common.{◌+◌, ◌<◌, ◌==◌, ◌↔◌, ◌∙◌, ◌≡◌, ◌≢◌, ◌≤◌, ◌⊎◌, IfSome, IsSome, List, None, Option, Some, arith, false, get_or, inl, inr, length, nat_eq, refl, slice_get, subst, sym, ℕ}
use Rattle.std.proofs.lemmas.Bool.{cases_lt}
use Rattle.std.proofs.lemmas.Bool.Decides.{nat_tests}
use Rattle.std.proofs.lemmas.Map.Keys.{apart_from_distinct}
use Rattle.std.proofs.lemmas.Option.{slice_get-get_or, slice_get_past}
use Rattle.tunnel.specs.Exports.{IsTunnelPlaceOnRoute}

next_cases : (route : List ℕ) (place : ℕ) →
    ((place + 1 < length route) × (slice_get route (place + 1) ≡ Some (get_or route (place + 1) 0)))
    ⊎ ((length route ≤ place + 1) × (slice_get route (place + 1) ≡ None))
next_cases route place = elim (cases_lt (place + 1) (length route)) [
  | inl less ↦ inl (less, slice_get-get_or route (place + 1) 0 less)
  | inr past ↦ inr (past, slice_get_past route (place + 1) past)
]

pub next_is_some : (route : List ℕ) (place : ℕ) (next : Option ℕ) →
    next ≡ slice_get route (place + 1) → IsSome next ↔ (place + 1 < length route)
next_is_some route place next e = elim (next_cases route place) [
  | inl more ↦ subst (λ (r : Option ℕ). IsSome r ↔ (place + 1 < length route)) (sym (e ∙ more.1))
      (λ _. more.0, λ _. refl)
  | inr end ↦ subst (λ (r : Option ℕ). IsSome r ↔ (place + 1 < length route)) (sym (e ∙ end.1))
      (λ h. cc, λ less. absurd (omega arith))
]

apart : (x y : ℕ) → (x == y) ≡ false → y ≢ x
apart x y h = grind (arith, nat_tests)

pub next_is_other : (route : List ℕ) (place : ℕ) (next : Option ℕ) → IsTunnelPlaceOnRoute route place →
    next ≡ slice_get route (place + 1) →
    IfSome next (λ other. (other ≢ get_or route place 0) × (other < 64))
next_is_other route place next on e = elim (next_cases route place) [
  | inl more ↦ subst (λ (r : Option ℕ). IfSome r
      (λ other. (other ≢ get_or route place 0) × (other < 64))) (sym (e ∙ more.1)) (
        apart _ _ (apart_from_distinct nat_eq route place (place + 1) 0 on.list.distinct
            (omega arith) more.0),
        on.list.switches (place + 1) 0 more.0,
      )
  | inr end ↦ subst (λ (r : Option ℕ). IfSome r
      (λ other. (other ≢ get_or route place 0) × (other < 64))) (sym (e ∙ end.1)) tt
]
