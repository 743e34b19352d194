-- Numbers of a range that a test picks, and what is made of them.
use Rattle.std.proofs.Common.{[], if◌then◌else◌, ◌++◌, ◌+◌, ◌-◌, ◌<◌, ◌∙◌, ◌∷◌, ◌≡◌, ◌≤◌, Bool, IsTrue, List, None, Option, Some, ap, append_assoc, arith, cond, false, filter, filter_map, get_or, inl, inr, length, map, map-id, max, nat_le, refl, suc, sym, take, true, zero, ℕ, rules}
use Rattle.std.specs.List.{AllByRecursion, cons_option, range_with_len}
use Rattle.std.proofs.lemmas.Bool.{cases_eq}
use Rattle.std.proofs.lemmas.Bool.Decides.{nat_tests}
use Rattle.std.proofs.lemmas.List.{map-append, take_more}
use Rattle.std.proofs.lemmas.List.Elements.{filter-append}
use Rattle.std.proofs.lemmas.List.FromFn.{get_or-map-range_with_len, map-range_with_len_more}

pub each_given : {Y : Type 0} (P : Y → Type 0) (gives : ℕ → Option Y) (low n : ℕ)
    → ((x : ℕ) → low ≤ x → x < low + n → (y : Y) → gives x ≡ Some y → P y)
    → AllByRecursion P (filter_map gives (range_with_len low n))
each_given P gives low zero all = tt
each_given {Y = Y} P gives low (suc n) all = by_given (gives low)
    (all low (omega arith) (omega arith))
    (each_given P gives (low + 1) n (λ x above below. all x (omega arith) (omega arith)))
  where
    by_given : (o : Option Y) → ((y : Y) → o ≡ Some y → P y)
        → AllByRecursion P (filter_map gives (range_with_len (low + 1) n))
        → AllByRecursion P (cons_option o (filter_map gives (range_with_len (low + 1) n)))
    by_given None all rest = rest
    by_given (Some y) all rest = (all y refl, rest)

pub given_some : {Y : Type 0} (gives : ℕ → Option Y) (low n x : ℕ) (y : Y) → low ≤ x → x < low + n
    → gives x ≡ Some y → 1 ≤ length (filter_map gives (range_with_len low n))
given_some gives low zero x y above below is = absurd (omega arith)
given_some {Y = Y} gives low (suc n) x y above below is = elim (cases_eq x low) [
  | inl same ↦ here (gives low) (ap gives (sym same) ∙ is)
  | inr apart ↦ later (gives low) (given_some gives (low + 1) n x y
      (omega (arith, above, apart)) (omega (arith, below)) is)
] where
  here : (o : Option Y) → o ≡ Some y
      → 1 ≤ length (cons_option o (filter_map gives (range_with_len (low + 1) n)))
  here None e = absurd cc
  here (Some z) e = omega arith

  later : (o : Option Y) → 1 ≤ length (filter_map gives (range_with_len (low + 1) n))
      → 1 ≤ length (cons_option o (filter_map gives (range_with_len (low + 1) n)))
  later None some = some
  later (Some z) some = omega arith

pub range_more : (a n next : ℕ) → a + n ≡ next
    → range_with_len a (n + 1) ≡ range_with_len a n ++ next ∷ []
range_more a n next is = cc (map-id _, map-range_with_len_more (λ k. k) a n next is)

pub filter_more : (p : ℕ → Bool) (n : ℕ) → filter p (range_with_len 0 (n + 1))
    ≡ filter p (range_with_len 0 n) ++ cond (p n) (n ∷ []) []
filter_more p n = cc (range_more 0 n n (omega arith), filter-append p (range_with_len 0 n) (n ∷ []))

-- what a test adds to a list
picked_one : {X : Type 0} (x : X) (b : Bool) (old front whole acts new : List X)
    → whole ≡ front ++ cond b (x ∷ []) [] → acts ≡ old ++ front → b ≡ true → new ≡ acts ++ x ∷ []
    → new ≡ old ++ whole
picked_one x b old front whole acts new grown before passes made = search (rules, append_assoc)

picked_none : {X : Type 0} (x : X) (b : Bool) (old front whole acts new : List X)
    → whole ≡ front ++ cond b (x ∷ []) [] → acts ≡ old ++ front → b ≡ false → new ≡ acts
    → new ≡ old ++ whole
picked_none x b old front whole acts new grown before fails made = search rules

map_test : {X Y : Type 0} (f : X → Y) (x : X) (b : Bool)
    → map f (cond b (x ∷ []) []) ≡ cond b (f x ∷ []) []
map_test f x b = search rules

-- one more number
picked_more : {X : Type 0} (f : ℕ → X) (p : ℕ → Bool) (n : ℕ)
    → map f (filter p (range_with_len 0 (n + 1))) ≡ map f (filter p (range_with_len 0 n)) ++ cond
    (p n) (f n ∷ []) []
picked_more f p n = ap (map f) (filter_more p n)
    ∙ map-append f (filter p (range_with_len 0 n)) (cond (p n) (n ∷ []) [])
    ∙ ap (λ l. map f (filter p (range_with_len 0 n)) ++ l) (map_test f n (p n))

-- the next number passes, and is added
pub picked_add : {X : Type 0} (f : ℕ → X) (p : ℕ → Bool) (n : ℕ) (old acts new : List X)
    → acts ≡ old ++ map f (filter p (range_with_len 0 n)) → p n ≡ true → new ≡ acts ++ f n ∷ []
    → new ≡ old ++ map f (filter p (range_with_len 0 (n + 1)))
picked_add f p n old acts new = picked_one (f n) (p n) old _ _ acts new (picked_more f p n)

-- it doesn't pass
pub picked_skip : {X : Type 0} (f : ℕ → X) (p : ℕ → Bool) (n : ℕ) (old acts new : List X)
    → acts ≡ old ++ map f (filter p (range_with_len 0 n)) → p n ≡ false → new ≡ acts
    → new ≡ old ++ map f (filter p (range_with_len 0 (n + 1)))
picked_skip f p n old acts new = picked_none (f n) (p n) old _ _ acts new (picked_more f p n)

-- one more item of a list
take_picked : {X Y : Type 0} (f : X → Y) (p : X → Bool) (xs : List X) (i : ℕ) (x : X)
    → i < length xs → x ≡ get_or xs i x → map f (filter p (take (i + 1) xs)) ≡ map f
    (filter p (take i xs)) ++ cond (p x) (f x ∷ []) []
take_picked f p xs i x within read = ap (λ l. map f (filter p l))
    (take_more xs i x within ∙ ap (λ y. take i xs ++ y ∷ []) (sym read))
    ∙ ap (map f) (filter-append p (take i xs) (x ∷ [])) ∙ map-append f (filter p (take i xs))
    (filter p (x ∷ [])) ∙ ap (λ l. map f (filter p (take i xs)) ++ l) (map_test f x (p x))

-- the next item passes, and is added
pub item_add : {X Y : Type 0} (f : X → Y) (p : X → Bool) (xs : List X) (i : ℕ) (x : X)
    (old acts new : List Y) → i < length xs → x ≡ get_or xs i x
    → acts ≡ old ++ map f (filter p (take i xs)) → p x ≡ true → new ≡ acts ++ f x ∷ []
    → new ≡ old ++ map f (filter p (take (i + 1) xs))
item_add f p xs i x old acts new within read =
    picked_one (f x) (p x) old _ _ acts new (take_picked f p xs i x within read)

-- it doesn't pass
pub item_skip : {X Y : Type 0} (f : X → Y) (p : X → Bool) (xs : List X) (i : ℕ) (x : X)
    (old acts new : List Y) → i < length xs → x ≡ get_or xs i x
    → acts ≡ old ++ map f (filter p (take i xs)) → p x ≡ false → new ≡ acts
    → new ≡ old ++ map f (filter p (take (i + 1) xs))
item_skip f p xs i x old acts new within read =
    picked_none (f x) (p x) old _ _ acts new (take_picked f p xs i x within read)

-- what a list by numbers has at a place
pub read_map : {X : Type 0} (f : ℕ → X) (xs : List X) (s : ℕ) (x : X)
    → xs ≡ map f (range_with_len 0 (length xs)) → s < length xs → x ≡ get_or xs s x → x ≡ f s
read_map f xs s x made within read = search (rules, get_or-map-range_with_len)

pub map-range_same : {X : Type 0} (f g : ℕ → X) (low n : ℕ)
    → ((x : ℕ) → low ≤ x → x < low + n → f x ≡ g x)
    → map f (range_with_len low n) ≡ map g (range_with_len low n)
map-range_same f g low zero makes = refl
map-range_same f g low (suc n) makes =
    ap (λ y. y ∷ map f (range_with_len (low + 1) n)) (makes low (omega arith) (omega arith))
    ∙ ap (λ ys. g low ∷ ys) (map-range_same f g (low + 1) n
    (λ x above below. makes x (omega arith) (omega arith)))

-- those from `to` on
pub later_same : {X : Type 0} (f g : ℕ → X) (to low n : ℕ)
    → ((x : ℕ) → low ≤ x → x < low + n → f x ≡ g x)
    → map f (filter (nat_le to) (range_with_len low n))
    ≡ map g (range_with_len (max to low) (low + n - max to low))
later_same f g to low zero same = search rules
later_same f g to low (suc n) same = by_place (nat_le to low) refl
    (later_same f g to (low + 1) n (λ x above below. same x (omega arith) (omega arith)))
  where
    rest : List ℕ
    rest = filter (nat_le to) (range_with_len (low + 1) n)

    by_place : (b : Bool) → nat_le to low ≡ b → map f rest
        ≡ map g (range_with_len (max to (low + 1)) (low + 1 + n - max to (low + 1))) → map f (if b
        then low ∷ rest else rest) ≡ map g (range_with_len (max to low) (low + suc n - max to low))
    by_place true is more =
        let own : low ≡ max to low = grind (arith, nat_tests) in
        let next : max to (low + 1) ≡ low + 1 = omega (arith, own) in
        let many : suc n ≡ low + suc n - low = omega arith in
        ap (λ y. y ∷ map f rest) (same low (omega arith) (omega arith))
        ∙ ap (λ ys. g low ∷ ys)
        (more ∙ ap (λ k. map g (range_with_len k (low + 1 + n - k))) next
        ∙ ap (λ k. map g (range_with_len (low + 1) k)) (omega arith))
        ∙ ap (λ k. map g (range_with_len low k)) many
        ∙ ap (λ k. map g (range_with_len k (low + suc n - k))) own
    by_place false is more =
        let later : low < to = grind (arith, nat_tests) in
        let own : to ≡ max to low = omega (arith, later) in
        let many : low + 1 + n - to ≡ low + suc n - to = omega arith in
        more ∙ ap (λ k. map g (range_with_len k (low + 1 + n - k))) (omega (arith, later))
        ∙ ap (λ k. map g (range_with_len to k)) many
        ∙ ap (λ k. map g (range_with_len k (low + suc n - k))) own

-- where the tests agree, and the same is made of each number that passes, the same is made
pub picked_same : {X : Type 0} (f g : ℕ → X) (p q : ℕ → Bool) (low n : ℕ)
    → ((x : ℕ) → low ≤ x → x < low + n → p x ≡ q x)
    → ((x : ℕ) → low ≤ x → x < low + n → IsTrue (q x) → f x ≡ g x)
    → map f (filter p (range_with_len low n)) ≡ map g (filter q (range_with_len low n))
picked_same f g p q low zero tests makes = refl
picked_same f g p q low (suc n) tests makes =
    ap (λ b. map f (if b then low ∷ filter p rest else filter p rest))
    (tests low (omega arith) (omega arith)) ∙ by_test (q low) refl
    (picked_same f g p q (low + 1) n (λ x above below. tests x (omega arith) (omega arith))
    (λ x above below. makes x (omega arith) (omega arith)))
  where
    rest : List ℕ
    rest = range_with_len (low + 1) n

    by_test : (b : Bool) → q low ≡ b → map f (filter p rest) ≡ map g (filter q rest)
        → map f (if b then low ∷ filter p rest else filter p rest)
        ≡ map g (if b then low ∷ filter q rest else filter q rest)
    by_test true e same = cc (makes low (omega arith) (omega arith) e, same)
    by_test false e same = same
