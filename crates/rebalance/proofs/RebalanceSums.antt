-- Sums over the numbers of partitions and of switches, and the greatest of numbers.
use Rattle.std.proofs.Common.{[], ◌*◌, ◌+◌, ◌<◌, ◌∙◌, ◌∷◌, ◌≡◌, ◌≤◌, Bool, List, add-one, ap, arith, cond, false, filter, fold, get_or, inl, inr, length, max, mul-le-mul_left, refl, suc, sum, sum_by, true, zero, zero-add, ℕ}
use Rattle.base.proofs.Exports.{AllByRecursion, cases_lt, fun_ext, get_or-le-sum_by, get_or-range_with_len, length-range_with_len, range_with_len, sum_by-cons}
use Rattle.placement.proofs.PlacementCallerLemmas.{each_by_count, sum-filter, sum_none}

-- ---- over lists

pub sum-le : (f g : ℕ → ℕ) (xs : List ℕ) → AllByRecursion (λ x. f x ≤ g x) xs
    → sum_by f xs ≤ sum_by g xs
sum-le f g [] each = omega arith
sum-le f g (x ∷ xs) each =
    omega (arith, sum_by-cons f x xs, sum_by-cons g x xs, each.0, sum-le f g xs each.1)

-- so much for each number that passes
pub sum-scaled : (m : ℕ) (test : ℕ → Bool) (xs : List ℕ)
    → sum_by (λ x. cond (test x) m 0) xs ≡ sum_by (λ x. cond (test x) 1 0) xs * m
sum-scaled m test [] = omega arith
sum-scaled m test (x ∷ xs) = by_case (test x) refl (sum-scaled m test xs) where
  by_case : (b : Bool) → test x ≡ b → sum_by (λ y. cond (test y) m 0) xs
      ≡ sum_by (λ y. cond (test y) 1 0) xs * m
      → sum_by (λ y. cond (test y) m 0) (x ∷ xs) ≡ sum_by (λ y. cond (test y) 1 0) (x ∷ xs) * m
  by_case true is rest =
      let one : cond (test x) 1 0 ≡ 1 = ap (λ b. cond b 1 0) is in
      let count = sum_by-cons (λ y. cond (test y) 1 0) x xs
      ∙ ap (λ n. n + sum_by (λ y. cond (test y) 1 0) xs) one in
      let times = ap (λ n. n * m) count in
      omega (arith, sum_by-cons (λ y. cond (test y) m 0) x xs, ap (λ b. cond b m 0) is, times, rest)
  by_case false is rest =
      let one : cond (test x) 1 0 ≡ 0 = ap (λ b. cond b 1 0) is in
      let count = sum_by-cons (λ y. cond (test y) 1 0) x xs
      ∙ ap (λ n. n + sum_by (λ y. cond (test y) 1 0) xs) one in
      let times = ap (λ n. n * m) count in
      omega (arith, sum_by-cons (λ y. cond (test y) m 0) x xs, ap (λ b. cond b m 0) is, times, rest)

-- ---- over places

-- places that begin one later
sum-next : (f : ℕ → ℕ) (a n : ℕ)
    → sum_by f (range_with_len (a + 1) n) ≡ sum_by (λ k. f (k + 1)) (range_with_len a n)
sum-next f a zero = refl
sum-next f a (suc n) = omega
    (arith, sum_by-cons f (a + 1) (range_with_len (a + 1 + 1) n), sum_by-cons, sum-next f (a + 1) n)

-- over the places of a list, or over more, where nothing counts past the end
pub sum-places : (g : ℕ → ℕ) → g 0 ≡ 0 → (xs : List ℕ) (n : ℕ) → length xs ≤ n
    → sum_by (λ k. g (get_or xs k 0)) (range_with_len 0 n) ≡ sum_by g xs
sum-places g none [] n few = let f : ℕ → ℕ = λ k. g (get_or [] k 0) in
    sum_none f (range_with_len 0 n)
    (each_by_count (λ k. f k ≡ 0) (range_with_len 0 n) (λ k there. none))
sum-places g none (x ∷ xs) zero few = absurd (omega arith)
sum-places g none (x ∷ xs) (suc n) few = let f : ℕ → ℕ = λ k. g (get_or (x ∷ xs) k 0) in
    omega (
      arith,
      sum_by-cons f 0 (range_with_len 1 n),
      sum_by-cons g x xs,
      (sum-next f 0 n ∙ ap (λ h. sum_by h (range_with_len 0 n))
          (fun_ext (λ k. ap (λ j. g (get_or (x ∷ xs) j 0)) (add-one k)))),
      sum-places g none xs n (omega arith),
    )

-- over the first places of a list
pub places-le : (xs : List ℕ) (n : ℕ) → n ≤ length xs
    → sum_by (λ k. get_or xs k 0) (range_with_len 0 n) ≤ sum xs
places-le xs zero few = omega arith
places-le [] (suc n) few = absurd (omega arith)
places-le (x ∷ xs) (suc n) few = let f : ℕ → ℕ = λ k. get_or (x ∷ xs) k 0 in
    omega (
      arith,
      sum_by-cons f 0 (range_with_len 1 n),
      sum_by-cons (λ y. y) x xs,
      (sum-next f 0 n ∙ ap (λ h. sum_by h (range_with_len 0 n))
          (fun_ext (λ k. ap (λ j. get_or (x ∷ xs) j 0) (add-one k)))),
      places-le xs n (omega arith),
    )

-- what is added at one place is a part of the sum
pub term-le : (f : ℕ → ℕ) (n p : ℕ) → p < n → f p ≤ sum_by f (range_with_len 0 n)
term-le f n p within = omega (
  arith,
  get_or-le-sum_by f (range_with_len 0 n) p 0 (omega (arith, length-range_with_len 0 n, within)),
  ap f (get_or-range_with_len 0 n p 0 within ∙ zero-add p),
)

-- so is what passes there
pub passing-le : (numbers : List ℕ) (test : ℕ → Bool) (p : ℕ) → p < length numbers
    → test p ≡ true → get_or numbers p 0
    ≤ sum_by (λ o. get_or numbers o 0) (filter test (range_with_len 0 (length numbers)))
passing-le numbers test p within passes =
    let f : ℕ → ℕ = λ o. cond (test o) (get_or numbers o 0) 0 in
    omega (
      arith,
      term-le f (length numbers) p within,
      (ap (λ b. cond b (get_or numbers p 0) 0) passes),
      sum-filter (λ o. get_or numbers o 0) test (range_with_len 0 (length numbers)),
    )

-- what a partition puts on a switch, and what these partitions do
abbrev put_at : (ℕ → ℕ) → (ℕ → ℕ → Bool) → ℕ → ℕ → ℕ
put_at weight held p s = cond (held p s) (weight p) 0

abbrev put_by : (ℕ → ℕ) → (ℕ → ℕ → Bool) → List ℕ → ℕ → ℕ
put_by weight held ps s = sum_by (λ p. put_at weight held p s) ps

put_both : (weight : ℕ → ℕ) (held : ℕ → ℕ → Bool) (p : ℕ) (ps ss : List ℕ)
    → sum_by (λ s. put_at weight held p s + put_by weight held ps s) ss
    ≡ sum_by (put_at weight held p) ss + sum_by (put_by weight held ps) ss
put_both weight held p ps [] = refl
put_both weight held p ps (s ∷ ss) = omega (
  arith,
  sum_by-cons (λ t. put_at weight held p t + put_by weight held ps t) s ss,
  sum_by-cons (put_at weight held p) s ss,
  sum_by-cons (put_by weight held ps) s ss,
  put_both weight held p ps ss,
)

-- if some switch has each partition's weight, the sum over partitions is at most that over switches
pub shared-le : (weight : ℕ → ℕ) (held : ℕ → ℕ → Bool) (switches parts : List ℕ)
    → AllByRecursion (λ p. weight p ≤ sum_by (λ s. cond (held p s) (weight p) 0) switches) parts
    → sum_by weight parts ≤ sum_by (λ s. sum_by (λ p. cond (held p s) (weight p) 0) parts) switches
shared-le weight held switches [] each = omega arith
shared-le weight held switches (p ∷ ps) each = omega (
  arith,
  sum_by-cons weight p ps,
  each.0,
  (ap (λ f. sum_by f switches) (fun_ext (λ s. sum_by-cons (λ q. put_at weight held q s) p ps))),
  put_both weight held p ps switches,
  shared-le weight held switches ps each.1,
)

-- ---- the greatest

-- what it begins with, and each number, is at most the greatest
most-all : (b : ℕ) (xs : List ℕ)
    → (b ≤ fold max b xs) × ((k : ℕ) → k < length xs → get_or xs k 0 ≤ fold max b xs)
most-all b [] = (omega arith, λ k within. absurd (omega arith))
most-all b (x ∷ xs) =
    let rest = most-all (max b x) xs in (omega (arith, rest.0), by_place rest.0 rest.1)
  where
    by_place : max b x ≤ fold max (max b x) xs
        → ((k : ℕ) → k < length xs → get_or xs k 0 ≤ fold max (max b x) xs) → (k : ℕ)
        → k < length (x ∷ xs) → get_or (x ∷ xs) k 0 ≤ fold max (max b x) xs
    by_place start each zero within = omega (arith, start)
    by_place start each (suc k) within = each k (omega arith)

pub most-each : (b : ℕ) (xs : List ℕ) (k : ℕ) → k < length xs → get_or xs k 0 ≤ fold max b xs
most-each b xs k within = (most-all b xs).1 k within

pub most-le : (m b : ℕ) (xs : List ℕ) → b ≤ m
    → ((k : ℕ) → k < length xs → get_or xs k 0 ≤ m) → fold max b xs ≤ m
most-le m b [] start each = start
most-le m b (x ∷ xs) start each = let here : x ≤ m = each 0 (omega arith) in
    most-le m (max b x) xs (omega arith) (λ k within. each (suc k) (omega arith))

-- ---- an even share

-- a quotient that is rounded up is within what each has
pub share-le : (total n each q : ℕ) → q * n < total + n → total ≤ n * each → q ≤ each
share-le total n each q rounded fits = elim (cases_lt each q) [
  | inl more ↦ let next : each + 1 ≤ q = omega arith in
      let grows : n * (each + 1) ≤ n * q = mul-le-mul_left n next in absurd (omega arith)
  | inr less ↦ less
]
