-- Numbers in an order: what an insertion sort keeps, and that only one list of given numbers rises.
use Rattle.base.proofs.Exports.{All-from_recursion, AllByRecursion, AllPairs-cons, cases_Bool, cases_eq, false≢true, list_any, list_any-append, list_any_none, nat_tests, ordering_then, range_with_len, recursion_from_All, sum_by-cons, ⊤}
use Rattle.std.proofs.Common.{[], ◌&&◌, ◌++◌, ◌+◌, ◌<◌, ◌||◌, ◌∙◌, ◌∷◌, ◌≡◌, ◌≢◌, ◌≤◌, AllPairs, Bool, IsSortedBy, List, ap, arith, cond, eq-eqb, eqb, false, filter, get_or, get_or-take, inl, inr, is_lt, leb, length, length-take, ltb, nat_cmp, ne_eqb, refl, subst, suc, sum_by, sym, take, true, zero, ℕ, rules}
use Rattle.placement.specs.Order.{with_placement_key_inserted, in_placement_order}

-- a test that puts any two different numbers in one order
pub record IsOrder (before : ℕ → ℕ → Bool) : Type 0 where
  pub never : (a : ℕ) → before a a ≡ false
  pub trans : (a b c : ℕ) → before a b ≡ true → before b c ≡ true → before a c ≡ true
  pub total : (a b : ℕ) → a ≢ b → before b a ≡ false → before a b ≡ true

-- each number comes before all later ones
abbrev pub Rises : (ℕ → ℕ → Bool) → List ℕ → Type 0
Rises before [] = ⊤
Rises before (x ∷ xs) = AllByRecursion (λ y. before x y ≡ true) xs × Rises before xs

-- 1 for this number
abbrev pub one_of : ℕ → ℕ → ℕ
one_of x y = cond (eqb x y) 1 0

-- how often the list has the number
abbrev pub count : ℕ → List ℕ → ℕ
count x xs = sum_by (one_of x) xs

-- ---- counts

pub one_of-same : (x : ℕ) → one_of x x ≡ 1
one_of-same x = rw (eq-eqb x x refl) refl

pub one_of-other : (x y : ℕ) → x ≢ y → one_of x y ≡ 0
one_of-other x y other = rw (ne_eqb x y other) refl

pub each_from_count : (P : ℕ → Type 0) (z : ℕ) (xs : List ℕ) → AllByRecursion P xs → 0 < count z xs
    → P z
each_from_count P z [] each some = absurd (omega arith)
each_from_count P z (x ∷ xs) each some = elim (cases_eq z x) [
  | inl same ↦ subst P (sym same) each.0
  | inr other ↦ each_from_count P z xs each.1
      (omega (arith, sum_by-cons (one_of z) x xs, one_of-other z x other))
]

pub each_by_count : (P : ℕ → Type 0) (xs : List ℕ) → ((z : ℕ) → 0 < count z xs → P z)
    → AllByRecursion P xs
each_by_count P [] all = tt
each_by_count P (x ∷ xs) all = (
  all x (omega (arith, sum_by-cons (one_of x) x xs, one_of-same x)),
  each_by_count P xs (λ z some. all z (omega (arith, sum_by-cons (one_of z) x xs))),
)

pub count-filter : (p : ℕ → Bool) (z : ℕ) (xs : List ℕ) → count z (filter p xs) ≡ cond (p z)
    (count z xs) 0
count-filter p z [] = empty_case (p z) where
  empty_case : (b : Bool) → let none : ℕ = 0 in none ≡ cond b 0 0
  empty_case b = search rules
count-filter p z (x ∷ xs) = elim (cases_eq z x) [
  | inl same ↦ same_case same (p z) refl (count-filter p z xs)
  | inr other ↦ other_case other (p x) (p z) (count-filter p z xs)
] where
  same_case : z ≡ x → (b : Bool) → p z ≡ b → count z (filter p xs) ≡ cond b (count z xs) 0
      → count z (cond (p x) (x ∷ filter p xs) (filter p xs)) ≡ cond b (count z (x ∷ xs)) 0
  same_case same true is rest = rw (ap p (sym same) ∙ is) (omega (
    arith,
    sum_by-cons (one_of z) x (filter p xs),
    sum_by-cons (one_of z) x xs,
    rest,
  ))
  same_case same false is rest = rw (ap p (sym same) ∙ is) rest

  other_case : z ≢ x → (b c : Bool) → count z (filter p xs) ≡ cond c (count z xs) 0
      → count z (cond b (x ∷ filter p xs) (filter p xs)) ≡ cond c (count z (x ∷ xs)) 0
  other_case other b c rest = search (rules, sum_by-cons, one_of-other)

-- ---- the numbers from one on

-- a number is there just where it is neither below the first nor past the last
pub count-range : (z a n : ℕ) → count z (range_with_len a n) ≡ cond (leb a z && ltb z (a + n)) 1 0
count-range z a zero = grind (arith, nat_tests)
count-range z a (suc n) = grind (
  arith,
  nat_tests,
  count-range z (a + 1) n,
  sum_by-cons (one_of z) a (range_with_len (a + 1) n),
)

pub count-range-le : (z a n : ℕ) → count z (range_with_len a n) ≤ 1
count-range-le z a n = grind (arith, count-range z a n)

pub count-range_within : (z n : ℕ) → z < n → 0 < count z (range_with_len 0 n)
count-range_within z n within = grind (arith, nat_tests, count-range z 0 n)

pub range-within : (z n : ℕ) → 0 < count z (range_with_len 0 n) → z < n
range-within z n some = grind (arith, nat_tests, count-range z 0 n)

-- ---- an insertion sort

pub sum-inserted : (f : ℕ → ℕ) (before : ℕ → ℕ → Bool) (x : ℕ) (xs : List ℕ)
    → sum_by f (with_placement_key_inserted before x xs) ≡ f x + sum_by f xs
sum-inserted f before x [] = sum_by-cons f x []
sum-inserted f before x (y ∷ ys) = by_case (before y x) (sum-inserted f before x ys) where
  by_case : (b : Bool) → sum_by f (with_placement_key_inserted before x ys) ≡ f x + sum_by f ys
      → sum_by f (cond b (y ∷ with_placement_key_inserted before x ys) (x ∷ y ∷ ys)) ≡ f x + sum_by f (y ∷ ys)
  by_case true rest = omega (
    arith,
    sum_by-cons f y (with_placement_key_inserted before x ys),
    sum_by-cons f y ys,
    rest,
  )
  by_case false rest = sum_by-cons f x (y ∷ ys)

pub sum-in_order : (f : ℕ → ℕ) (before : ℕ → ℕ → Bool) (xs : List ℕ) → sum_by f (in_placement_order before xs)
    ≡ sum_by f xs
unfolding in_placement_order
sum-in_order f before [] = refl
sum-in_order f before (x ∷ xs) = omega (
  arith,
  sum-inserted f before x (in_placement_order before xs),
  sum-in_order f before xs,
  sum_by-cons f x xs,
)

pub length-inserted : (before : ℕ → ℕ → Bool) (x : ℕ) (xs : List ℕ)
    → length (with_placement_key_inserted before x xs) ≡ suc (length xs)
length-inserted before x [] = refl
length-inserted before x (y ∷ ys) = by_case (before y x) (length-inserted before x ys) where
  by_case : (b : Bool) → length (with_placement_key_inserted before x ys) ≡ suc (length ys)
      → length (cond b (y ∷ with_placement_key_inserted before x ys) (x ∷ y ∷ ys)) ≡ suc (suc (length ys))
  by_case b rest = search rules

pub length-in_order : (before : ℕ → ℕ → Bool) (xs : List ℕ) → length (in_placement_order before xs) ≡ length
    xs
unfolding in_placement_order
length-in_order before [] = refl
length-in_order before (x ∷ xs) = length-inserted before x (in_placement_order before xs)
    ∙ ap suc (length-in_order before xs)

each-inserted : (P : ℕ → Type 0) (before : ℕ → ℕ → Bool) (x : ℕ) (xs : List ℕ) → P x
    → AllByRecursion P xs → AllByRecursion P (with_placement_key_inserted before x xs)
each-inserted P before x [] here each = (here, tt)
each-inserted P before x (y ∷ ys) here each = by_case (before y x)
    (each-inserted P before x ys here each.1)
  where
    by_case : (b : Bool) → AllByRecursion P (with_placement_key_inserted before x ys)
        → AllByRecursion P (cond b (y ∷ with_placement_key_inserted before x ys) (x ∷ y ∷ ys))
    by_case b rest = search rules

each-trans : (before : ℕ → ℕ → Bool) → IsOrder before → (x y : ℕ) (ys : List ℕ) → before x y ≡ true
    → AllByRecursion (λ z. before y z ≡ true) ys → AllByRecursion (λ z. before x z ≡ true) ys
each-trans before order x y [] first each = tt
each-trans before order x y (z ∷ zs) first each =
    (order.trans x y z first each.0, each-trans before order x y zs first each.1)

rises-inserted : (before : ℕ → ℕ → Bool) → IsOrder before → (x : ℕ) (xs : List ℕ) → count x xs ≡ 0
    → Rises before xs → Rises before (with_placement_key_inserted before x xs)
rises-inserted before order x [] none rises = (tt, tt)
rises-inserted before order x (y ∷ ys) none rises =
    let other : x ≢ y = λ same.
    absurd (omega (arith, sum_by-cons (one_of x) y ys, one_of-same x, ap (one_of x) same)) in
    elim (cases_Bool (before y x)) [
      | inl first ↦ rw first (
        each-inserted (λ z. before y z ≡ true) before x ys first rises.0,
        rises-inserted before order x ys (omega (arith, sum_by-cons (one_of x) y ys)) rises.1,
      )
      | inr later ↦ let first = order.total x y other later in
          rw later ((first, each-trans before order x y ys first rises.0), rises)
    ]

pub rises-in_order : (before : ℕ → ℕ → Bool) → IsOrder before → (xs : List ℕ)
    → ((z : ℕ) → count z xs ≤ 1) → Rises before (in_placement_order before xs)
unfolding in_placement_order
rises-in_order before order [] once = tt
rises-in_order before order (x ∷ xs) once =
    let none : count x (in_placement_order before xs) ≡ 0 = omega (
      arith,
      sum-in_order (one_of x) before xs,
      once x,
      sum_by-cons (one_of x) x xs,
      one_of-same x,
    ) in
    rises-inserted before order x (in_placement_order before xs) none
    (rises-in_order before order xs (λ z. omega (arith, once z, sum_by-cons (one_of z) x xs)))

-- ---- what std's sort leaves

pub rises_from_sorted : (before : ℕ → ℕ → Bool) → IsOrder before → (xs : List ℕ)
    → IsSortedBy before xs → ((z : ℕ) → count z xs ≤ 1) → Rises before xs
rises_from_sorted before order [] sorted once = tt
rises_from_sorted before order (x ∷ []) sorted once = (tt, tt)
rises_from_sorted before order (x ∷ y ∷ ys) sorted once =
    let other : x ≢ y = λ same. absurd (omega (
      arith,
      once x,
      sum_by-cons (one_of x) x (y ∷ ys),
      sum_by-cons (one_of x) y ys,
      one_of-same x,
      ap (one_of x) same,
    )) in
    let first = order.total x y other (sorted 0 x (omega arith) (omega arith)) in
    let tail = rises_from_sorted before order (y ∷ ys) (λ k d low high.
    let next_place : suc k + 1 ≡ suc (k + 1) = omega arith in
    subst (λ n. before (get_or (x ∷ y ∷ ys) n d) (get_or (y ∷ ys) k d) ≡ false) next_place
    (sorted (suc k) d (omega arith) (omega arith)))
    (λ z. omega (arith, once z, sum_by-cons (one_of z) x (y ∷ ys))) in
    ((first, each-trans before order x y ys first tail.0), tail)

-- ---- one list

-- the first number of the one is behind the first of the other, where the two differ
behind_first : (before : ℕ → ℕ → Bool) (x y : ℕ) (xs ys : List ℕ) → x ≢ y
    → count x (x ∷ xs) ≡ count x (y ∷ ys) → AllByRecursion (λ z. before y z ≡ true) ys
    → before y x ≡ true
behind_first before x y xs ys other same rises = each_from_count (λ z. before y z ≡ true) x ys rises
    (omega (
      arith,
      sum_by-cons (one_of x) x xs,
      sum_by-cons (one_of x) y ys,
      one_of-same x,
      one_of-other x y other,
    ))

-- two lists that rise and have the same numbers
pub same_rising : (before : ℕ → ℕ → Bool) → IsOrder before → (xs ys : List ℕ) → Rises before xs
    → Rises before ys → ((z : ℕ) → count z xs ≡ count z ys) → xs ≡ ys
same_rising before order [] [] p q counts = refl
same_rising before order [] (y ∷ ys) p q counts =
    absurd (omega (arith, counts y, sum_by-cons (one_of y) y ys, one_of-same y))
same_rising before order (x ∷ xs) [] p q counts =
    absurd (omega (arith, counts x, sum_by-cons (one_of x) x xs, one_of-same x))
same_rising before order (x ∷ xs) (y ∷ ys) p q counts = elim (cases_eq x y) [
  | inl same ↦ let tails = same_rising before order xs ys p.1 q.1 (λ z. omega (
    arith,
    counts z,
    sum_by-cons (one_of z) x xs,
    sum_by-cons (one_of z) y ys,
    ap (one_of z) same,
  )) in
      cc
  | inr other ↦ let x_later = behind_first before x y xs ys other (counts x) q.0 in
      absurd (false≢true (sym (order.never x) ∙ order.trans x y x (behind_first before y x ys xs
      (λ same. other (sym same)) (sym (counts y)) p.0) x_later))
]

-- ---- between the forms of a rising list

pub pairs_from_rises : (before : ℕ → ℕ → Bool) (xs : List ℕ) → Rises before xs
    → AllPairs (λ a b. before a b ≡ true) xs
pairs_from_rises before [] rises = λ i j d less within. absurd (omega arith)
pairs_from_rises before (x ∷ xs) rises = AllPairs-cons (λ a b. before a b ≡ true) x xs
    (All-from_recursion (λ y. before x y ≡ true) xs rises.0) (pairs_from_rises before xs rises.1)

pub rises_from_pairs : (before : ℕ → ℕ → Bool) (xs : List ℕ) → AllPairs (λ a b. before a b ≡ true)
    xs → Rises before xs
rises_from_pairs before [] pairs = tt
rises_from_pairs before (x ∷ xs) pairs = (
  recursion_from_All (λ y. before x y ≡ true) xs
      (λ k d within. pairs 0 (suc k) d (omega arith) (omega arith)),
  rises_from_pairs before xs
      (λ i j d less within. pairs (suc i) (suc j) d (omega arith) (omega arith)),
)

-- the comparison of two pairs of numbers, first by the first ones
pub lexicographic : (a b c d : ℕ) → is_lt (ordering_then (nat_cmp a b) (nat_cmp c d)) ≡ false
    → (ltb a b || (eqb a b && ltb c d)) ≡ false
lexicographic a b c d = grind (arith, nat_tests)

-- of different numbers, none is at an earlier place too
pub not_among_before : (xs : List ℕ) (k : ℕ) → k < length xs → AllPairs (λ a b. a ≡ b → ⊥) xs
    → list_any (eqb (get_or xs k 0)) (take k xs) ≡ false
not_among_before xs k within pairs = search (rules, list_any_none, length-take, get_or-take, ne_eqb)

pub among-push : (x : ℕ) (xs : List ℕ) (y : ℕ) → list_any (eqb x) (xs ++ y ∷ [])
    ≡ (list_any (eqb x) xs || eqb x y)
among-push x xs y = search (rules, list_any-append)
