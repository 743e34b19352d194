-- Whether an element passes a test.
use Rattle.std.proofs.Common.{[], ◌&&◌, ◌<◌, ◌||◌, ◌∷◌, ◌≡◌, All, Bool, IsTrue, List, ap, arith, eqb, false, filter, flat_map, get_or, length, map, refl, sym, true, ℕ, rules}
use Rattle.std.specs.List.{list_any}
use Rattle.std.proofs.Math.Bool.{and-false}
use Rattle.std.proofs.lemmas.Bool.{both_ways, false_from_ne_true}
use Rattle.std.proofs.lemmas.List.Elements.{All-tail}
use Rattle.std.proofs.lemmas.List.Folds.{list_any-append, list_any_at}

pub none_passes : {X : Type 0} (test : X → Bool) (xs : List X) (i : ℕ) (d : X) → i < length xs
    → list_any test xs ≡ false → test (get_or xs i d) ≡ false
none_passes test xs i d within none = search (rules, false_from_ne_true, both_ways, list_any_at)

pub any_filter : {X : Type 0} (test passes : X → Bool) (xs : List X)
    → list_any test (filter passes xs) ≡ true → list_any test xs ≡ true
any_filter test passes [] is = is
any_filter {X = X} test passes (x ∷ xs) is = search (rules, any_filter test passes xs)

pub any_key : {X : Type 0} (key : X → ℕ) (xs : List X) (q : ℕ)
    → list_any (λ n. eqb n q) (map key xs) ≡ list_any (λ x. eqb (key x) q) xs
any_key key [] q = refl
any_key key (x ∷ xs) q = ap (λ b. eqb (key x) q || b) (any_key key xs q)

pub list_any_map : {X Y : Type 0} (p : Y → Bool) (f : X → Y) (xs : List X)
    → list_any p (map f xs) ≡ list_any (λ x. p (f x)) xs
list_any_map p f [] = refl
list_any_map p f (x ∷ xs) = ap (λ b. p (f x) || b) (list_any_map p f xs)

pub list_any_flat_map : {X Y : Type 0} (p : Y → Bool) (f : X → List Y) (xs : List X)
    → list_any p (flat_map f xs) ≡ list_any (λ x. list_any p (f x)) xs
list_any_flat_map p f [] = refl
list_any_flat_map p f (x ∷ xs) = search (rules, list_any-append, list_any_flat_map p f xs)

-- some element passes f where some passes y, within what does not depend on the element
pub any_within : {X : Type 0} (w : Bool → Bool) (none : w false ≡ false) (f y : X → Bool) (xs : List X)
    → All (λ x. f x ≡ w (y x)) xs → list_any f xs ≡ w (list_any y xs)
any_within w none f y [] all = sym none
any_within w none f y (x ∷ xs) all =
    let there = any_within w none f y xs (All-tail (λ x. f x ≡ w (y x)) x xs all) in
    rw ((all 0 x (omega arith)), there) (joined (y x) (list_any y xs))
  where
    idle : (b : Bool) → (b || b) ≡ b
    idle true = refl
    idle false = refl

    or_none : (b : Bool) → (b || false) ≡ b
    or_none true = refl
    or_none false = refl

    joined : (a b : Bool) → (w a || w b) ≡ w (a || b)
    joined true true = idle (w true)
    joined true false = rw none (or_none (w true))
    joined false b = rw none refl

-- where those that pass the test and another one are those for which b holds
pub any_filter_by : {X : Type 0} (test passes : X → Bool) (b : Bool)
    → ((x : X) → test x ≡ true → passes x ≡ b) → (xs : List X)
    → list_any test (filter passes xs) ≡ (list_any test xs && b)
any_filter_by test passes b so [] = refl
any_filter_by {X = X} test passes b so (x ∷ xs) = search (rules, any_filter_by test passes b so xs)

pub list_any-both : {X : Type 0} (t : Bool) (q : X → Bool) (xs : List X) →
    list_any (λ x. t && q x) xs ≡ (t && list_any q xs)
list_any-both t q [] = sym (and-false t)
list_any-both true q (x ∷ xs) = ap (λ b. q x || b) (list_any-both true q xs)
list_any-both false q (x ∷ xs) = list_any-both false q xs

pub any_filtered : {X : Type 0} (test passes : X → Bool) (xs : List X)
    → list_any test (filter passes xs) ≡ list_any (λ x. test x && passes x) xs
any_filtered test passes [] = refl
any_filtered {X = X} test passes (x ∷ xs) = search (rules, any_filtered test passes xs)

pub any_weaker : {X : Type 0} (test passes : X → Bool) (xs : List X)
    → IsTrue (list_any (λ x. test x && passes x) xs) → IsTrue (list_any test xs)
any_weaker test passes [] is = is
any_weaker {X = X} test passes (x ∷ xs) is = search (rules, any_weaker test passes xs)
