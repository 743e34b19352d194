-- The first place at which a test passes, from a place on and before it.
use Rattle.std.proofs.Common.{[], ◌+◌, ◌<◌, ◌∙◌, ◌∷◌, ◌≡◌, All, Bool, IfSome, IsFalse, IsSomeAnd, IsTrue, List, None, Option, Some, ap, arith, drop, get_or-drop, get_or-take, length, length-drop, length-take, lt-ltb, position, slice_get, sym, take, take-append-drop, take_all, ℕ, rules}
use Rattle.std.proofs.lemmas.List.{drop_all}
use Rattle.std.proofs.lemmas.List.Elements.{All-append}
use Rattle.std.proofs.lemmas.List.Quantifiers.{position-Some}
use Rattle.std.proofs.lemmas.List.Sums.{fails_before_first}
use Rattle.std.proofs.lemmas.Option.{slice_get-get_or}

pub found_from : {X : Type 0} (p : X → Bool) (xs : List X) (from i : ℕ)
    → position p (drop from xs) ≡ Some i
    → (from + i < length xs) × IsSomeAnd (slice_get xs (from + i)) (λ x. IsTrue (p x))
found_from p [] from i hit = cc (hit, ap (λ ys. position p ys) (drop_all from [] (omega arith)))
found_from p (x ∷ xs) from i hit =
    let found = position-Some p (drop from (x ∷ xs)) i x hit in
    let within : from + i < length (x ∷ xs) = omega (arith, length-drop from (x ∷ xs), found.0) in (
      within,
      rw (slice_get-get_or (x ∷ xs) (from + i) x within)
          (sym (ap p (get_or-drop from (x ∷ xs) i x)) ∙ found.1),
    )

pub found_before : {X : Type 0} (p : X → Bool) (xs : List X) (from i : ℕ)
    → position p (take from xs) ≡ Some i
    → (i < length xs) × IsSomeAnd (slice_get xs i) (λ x. IsTrue (p x))
found_before p [] from i hit = cc (hit, ap (λ ys. position p ys) (take_all from [] (omega arith)))
found_before p (x ∷ xs) from i hit =
    let found = position-Some p (take from (x ∷ xs)) i x hit in
    let length_of = length-take from (x ∷ xs) in
    let within : i < length (x ∷ xs) = omega (arith, length_of, found.0) in
    let below : i < from = omega (arith, length_of, found.0) in (
      within,
      rw (slice_get-get_or (x ∷ xs) i x within)
          (sym (ap p (get_or-take from (x ∷ xs) i x below)) ∙ found.1),
    )

not_found : {X : Type 0} (p : X → Bool) (xs : List X) → position p xs ≡ None
    → All (λ x. IsFalse (p x)) xs
not_found p xs none k d within = search (rules, lt-ltb, fails_before_first)

pub not_found_on_both_sides : {X : Type 0} (p : X → Bool) (xs : List X) (from : ℕ) → position p
    (drop from xs) ≡ None → position p (take from xs) ≡ None → All (λ x. IsFalse (p x)) xs
not_found_on_both_sides p xs from after before = rw (take-append-drop from xs) at
    (All-append (λ x. IsFalse (p x)) (take from xs) (drop from xs)
    (not_found p (take from xs) before) (not_found p (drop from xs) after))

pub if_some : {X : Type 0} (o : Option X) {P : X → Type 0} → ((x : X) → o ≡ Some x → P x)
    → IfSome o P
if_some o each = search rules
