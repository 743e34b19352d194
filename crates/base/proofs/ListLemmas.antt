-- What proofs above cite of lists and options of any kind.
use Rattle.std.proofs.Common.{[], ◌++◌, ◌+◌, ◌∷◌, ◌≡◌, ◌≤◌, Bool, Contains, List, None, Option, Some, arith, cond, count_by, false, filter, filter_map, find, is_some, length, not, refl, suc, true, ℕ, rules}
use Rattle.std.specs.List.{AllByRecursion, cons_option}
use Rattle.std.proofs.lemmas.List.Sums.{sum_by-cons}
use Rattle.std.proofs.lemmas.List.Filters.{sum_by-filter_both}

pub none_from_not_some : {X : Type 0} (o : Option X) → is_some o ≡ false → o ≡ None
none_from_not_some o none = search rules

-- a list that ends in an item is not empty
pub append_not_nil : {X : Type 0} (xs : List X) (x : X) → xs ++ x ∷ [] ≡ [] → ⊥
append_not_nil [] x none = cc
append_not_nil (y ∷ xs) x none = cc

pub each_weaker : {X : Type 0} (P Q : X → Type 0) → ((x : X) → P x → Q x) → (xs : List X)
    → AllByRecursion P xs → AllByRecursion Q xs
each_weaker P Q weaker [] each = tt
each_weaker P Q weaker (x ∷ xs) each = (weaker x each.0, each_weaker P Q weaker xs each.1)

-- two tests that agree find the same
pub find_same : {X : Type 0} (p q : X → Bool) → ((x : X) → p x ≡ q x) → (xs : List X)
    → find p xs ≡ find q xs
find_same p q same xs = search rules

pub count_by-cons : {X : Type 0} (test : X → Bool) (x : X) (xs : List X)
    → count_by test (x ∷ xs) ≡ cond (test x) 1 0 + count_by test xs
count_by-cons test x xs = sum_by-cons (λ z. cond (test z) 1 0) x xs

pub count-filter-le : {X : Type 0} (test kept : X → Bool) (xs : List X)
    → count_by test (filter kept xs) ≤ count_by test xs
count-filter-le test kept xs =
    omega (arith, sum_by-filter_both kept (λ x. not (kept x)) (λ x. refl) (λ x. cond (test x) 1 0) xs)

pub length-filter_map : {X Y : Type 0} (f : X → Option Y) (xs : List X)
    → length (filter_map f xs) ≤ length xs
length-filter_map f [] = omega arith
length-filter_map {Y = Y} f (x ∷ xs) = search (rules, length-filter_map f xs)

pub in_cons_option : {X : Type 0} (first : Option X) (rest : List X) (x : X) → Contains rest x
    → Contains (cons_option first rest) x
in_cons_option None rest x there = there
in_cons_option (Some y) rest x (k, within, is) = (suc k, omega (arith, within), is)
