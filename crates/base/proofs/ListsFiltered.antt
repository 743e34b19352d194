-- What a filter keeps, and sums and counts over it.
use Rattle.std.proofs.Common.{[], ◌&&◌, ◌*◌, ◌+◌, ◌∙◌, ◌∷◌, ◌≡◌, ◌≤◌, All, Bool, List, ap, arith, cond, count_by, false, filter, flat_map, get_or, length, length-append, map, not, refl, suc-mul, sum_by, sym, true, ℕ, rules}
use Rattle.std.specs.List.{AllByRecursion}
use Rattle.std.proofs.lemmas.List.Elements.{All-head, All-tail}
use Rattle.std.proofs.lemmas.List.Filters.{sum_by-filter_both}
use Rattle.std.proofs.lemmas.List.Sums.{count_by-le-length, length-filter, sum_by-cons, sum_by-le}
use Rattle.base.proofs.ListLemmas.{count_by-cons}

zero_plus : (n : ℕ) → 0 + n ≡ n
zero_plus n = omega arith

-- each is at most the bound
pub sum_each : {X : Type 0} (f : X → ℕ) (most : ℕ) (xs : List X) → ((x : X) → f x ≤ most)
    → sum_by f xs ≤ length xs * most
sum_each f most xs few = sum_by-le f most xs (λ k d within. few (get_or xs k d))

-- a sum over those that pass a test
pub sum_filter : {X : Type 0} (f : X → ℕ) (test : X → Bool) (xs : List X)
    → sum_by f (filter test xs) ≡ sum_by (λ x. cond (test x) (f x) 0) xs
sum_filter f test [] = refl
sum_filter f test (x ∷ xs) = by_test (test x) refl (sum_filter f test xs) where
  by_test : (b : Bool) → test x ≡ b
      → sum_by f (filter test xs) ≡ sum_by (λ y. cond (test y) (f y) 0) xs
      → sum_by f (cond b (x ∷ filter test xs) (filter test xs))
      ≡ sum_by (λ y. cond (test y) (f y) 0) (x ∷ xs)
  by_test true e rest = cc
      (sum_by-cons f x (filter test xs), rest, e, sum_by-cons (λ y. cond (test y) (f y) 0) x xs)
  by_test false e rest = rest ∙ sym (zero_plus (sum_by (λ y. cond (test y) (f y) 0) xs))
      ∙ ap (λ b. cond b (f x) 0 + sum_by (λ y. cond (test y) (f y) 0) xs) (sym e)
      ∙ sym (sum_by-cons (λ y. cond (test y) (f y) 0) x xs)

pub sum_some : {X : Type 0} (f : X → ℕ) (test : X → Bool) (xs : List X)
    → sum_by f (filter test xs) ≤ sum_by f xs
sum_some f test xs = omega (arith, sum_by-filter_both test (λ x. not (test x)) (λ x. refl) f xs)

pub length_filter_less : {X : Type 0} (test : X → Bool) (xs : List X)
    → length (filter test xs) ≤ length xs
length_filter_less test xs = omega (arith, length-filter test xs, count_by-le-length test xs)

pub filter_filter : {X : Type 0} (p q r : X → Bool) → ((x : X) → r x ≡ (p x && q x)) → (xs : List X)
    → filter q (filter p xs) ≡ filter r xs
filter_filter p q r both [] = refl
filter_filter {X} p q r both (x ∷ xs) = search (rules, filter_filter p q r both xs)

pub filter_all : {X : Type 0} (p : X → Bool) (xs : List X) → All (λ x. p x ≡ true) xs → filter p xs ≡ xs
filter_all p [] all = refl
filter_all p (x ∷ xs) all = let here : p x ≡ true = all 0 x (omega arith) in
    rw here (ap (λ ys. x ∷ ys) (filter_all p xs (All-tail (λ x. p x ≡ true) x xs all)))

-- a filter by what another test implies changes nothing
pub filter_implied : {X : Type 0} (p q : X → Bool) (xs : List X)
    → All (λ x. p x ≡ true → q x ≡ true) xs → filter p (filter q xs) ≡ filter p xs
filter_implied p q [] implied = refl
filter_implied p q (x ∷ xs) implied = by (p x) refl (q x) refl
    (filter_implied p q xs (All-tail (λ x. p x ≡ true → q x ≡ true) x xs implied))
  where
    by : (b : Bool) → p x ≡ b → (c : Bool) → q x ≡ c → filter p (filter q xs) ≡ filter p xs
        → filter p (filter q (x ∷ xs)) ≡ filter p (x ∷ xs)
    by true one true other rest = rw (other, one) (ap (λ ys. x ∷ ys) rest)
    by true one false other rest =
        let also = All-head (λ x. p x ≡ true → q x ≡ true) x xs implied one in absurd (cc)
    by false one true other rest = rw (other, one) rest
    by false one false other rest = rw (other, one) rest

pub filter_same_on : {X : Type 0} (P : X → Type 0) (p q : X → Bool) → ((x : X) → P x → p x ≡ q x)
    → (xs : List X) → AllByRecursion P xs → filter p xs ≡ filter q xs
filter_same_on P p q same [] all = refl
filter_same_on P p q same (x ∷ xs) all =
    let rest : filter p xs ≡ filter q xs = filter_same_on P p q same xs all.1 in
    rw ((same x all.0), rest) refl

pub map_twice : {X Y Z : Type 0} (f : X → Y) (g : Y → Z) (xs : List X)
    → map g (map f xs) ≡ map (λ x. g (f x)) xs
map_twice f g [] = refl
map_twice f g (x ∷ xs) = ap (λ ys. g (f x) ∷ ys) (map_twice f g xs)

pub filter_made : {X Y : Type 0} (f : X → Y) (p : Y → Bool) (xs : List X)
    → filter p (map f xs) ≡ map f (filter (λ x. p (f x)) xs)
filter_made f p [] = refl
filter_made f p (x ∷ xs) = search (rules, filter_made f p xs)

-- as many bytes as each has at most
pub each_short : {A : Type 0} (spell : A → List ℕ) (most : ℕ) (xs : List A)
    → All (λ x. length (spell x) ≤ most) xs → length (flat_map spell xs) ≤ length xs * most
each_short spell most [] short = omega arith
each_short spell most (x ∷ xs) short =
    let rest = each_short spell most xs (All-tail (λ x. length (spell x) ≤ most) x xs short) in
    let first = All-head (λ x. length (spell x) ≤ most) x xs short in
    omega (arith, rest, first, suc-mul (length xs) most, length-append (spell x) (flat_map spell xs))

pub count_by-map : {X Y : Type 0} (test : Y → Bool) (f : X → Y) (xs : List X)
    → count_by test (map f xs) ≡ count_by (λ x. test (f x)) xs
count_by-map test f [] = refl
count_by-map {X} {Y} test f (x ∷ xs) = omega (
  arith,
  count_by-cons test (f x) (map f xs),
  count_by-cons (λ z. test (f z)) x xs,
  count_by-map test f xs,
)
