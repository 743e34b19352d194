-- Rows by falling priority: one list of them has this order, where no two have one priority.
use Rattle.std.proofs.Common.{[], ◌&&◌, ◌++◌, ◌+◌, ◌<◌, ◌^◌, ◌∙◌, ◌∷◌, ◌≡◌, ◌≢◌, ◌≤◌, All, Bool, Contains, IsPermutation, IsSortedBy, List, MatchOption, None, Option, Some, ap, arith, cond, eq-eqb, eqb, eqb-true, false, filter, find, get_or, is_lt, le-ltb, lt-ltb, ltb, ltb-true, nat_cmp, not, refl, subst, suc, sum_by, sym, true, zero, ℕ}
use Rattle.base.proofs.Exports.{All-append, All-cons, All-contains, All-contains_itself, All-filter, All-head, All-nil, All-permutation, All-tail, AllPairs-cons, AllPairs-filter, Contains-append_right, Contains-permutation, IsPermutation-append_right, IsPermutation-filter_both, IsPermutation-refl, IsPermutation-sym, IsPermutation-trans, filter_all, filter_filter, filter_passes, ge_from_not_lt, nat_tests, sum_by-IsPermutation, sum_by-cons}
use Rattle.policy_rules.specs.declared.policy.Row.{Row}
use Rattle.policy_rules.specs.Exports.{PolicyHasDistinctPriorities, IsPolicyPriorityFalling, IsHighestPolicyRowIn, IsSoundPolicyRow, policy_rows_by_falling_priority, policy_rows_falling_below, highest_policy_row}
use Rattle.policy_rules.proofs.PolicyFirstMatch.{highest_is, one_of_priority}

-- ---- the rows below a priority are a permutation of them

abbrev below : ℕ → Row → Bool
below n row = ltb row.priority n

none_below : (rows : List Row) → filter (below 0) rows ≡ []
none_below [] = refl
none_below (row ∷ rows) = rw (le-ltb row.priority 0 (omega arith)) (none_below rows)

equal_test : (n p : ℕ) → eqb n p ≡ (ltb n (suc p) && eqb n p)
equal_test n p = grind (arith, nat_tests)

below_test : (n p : ℕ) → ltb n p ≡ (ltb n (suc p) && not (eqb n p))
below_test n p = grind (arith, nat_tests)

moved_below : (n : ℕ) (rows : List Row) → IsPermutation (filter (below n) rows)
    (policy_rows_falling_below n rows)
unfolding policy_rows_falling_below
moved_below zero rows = rw (none_below rows) (IsPermutation-refl [])
moved_below (suc p) rows =
    let has : Row → Bool = λ row. eqb row.priority p in
    let other : Row → Bool = λ row. not (has row) in
    let kept = filter (below (suc p)) rows in
    let same : filter has kept ++ filter other kept ≡ filter has rows ++ filter (below p) rows =
    ap (λ xs. xs ++ filter other kept) (filter_filter (below (suc p)) has has
    (λ row. equal_test row.priority p) rows) ∙ ap (λ ys. filter has rows ++ ys)
    (filter_filter (below (suc p)) other (below p) (λ row. below_test row.priority p) rows) in
    IsPermutation-trans kept (filter has rows ++ filter (below p) rows)
    (filter has rows ++ policy_rows_falling_below p rows)
    (subst (IsPermutation kept) same (IsPermutation-filter_both has other (λ row. refl) kept))
    (IsPermutation-append_right (filter has rows) (filter (below p) rows) (policy_rows_falling_below p rows)
    (moved_below p rows))

pub IsPermutation-by_falling_priority : (rows : List Row) → All IsSoundPolicyRow rows
    → IsPermutation rows (policy_rows_by_falling_priority rows)
unfolding policy_rows_by_falling_priority
IsPermutation-by_falling_priority rows sound =
    rw (filter_all (below (2 ^ 32)) rows (λ k d within. lt-ltb _ _ (sound k d within).priority)) at
    (moved_below (2 ^ 32) rows)

-- ---- they fall

falls_append : (p : ℕ) (xs ys : List Row) → All (λ (x : Row). eqb x.priority p ≡ true) xs
    → All (λ (y : Row). ltb y.priority p ≡ true) ys → IsPolicyPriorityFalling ys → IsPolicyPriorityFalling (xs ++ ys)
falls_append p [] ys same low falling = falling
falls_append p (x ∷ xs) ys same low falling =
    let here = eqb-true x.priority p (All-head (λ (x : Row). eqb x.priority p ≡ true) x xs same) in
    let tail = All-tail (λ (x : Row). eqb x.priority p ≡ true) x xs same in
    AllPairs-cons (λ (row later : Row). later.priority ≤ row.priority) x (xs ++ ys)
    (All-append (λ (later : Row). later.priority ≤ x.priority) xs ys
    (λ k d within. omega (arith, eqb-true _ _ (tail k d within), here))
    (λ k d within. omega (arith, ltb-true _ _ (low k d within), here)))
    (falls_append p xs ys tail low falling)

falls_below : (n : ℕ) (rows : List Row) → IsPolicyPriorityFalling (policy_rows_falling_below n rows)
unfolding policy_rows_falling_below
falls_below zero rows = λ i j d less within. absurd (omega arith)
falls_below (suc p) rows =
    let low = All-permutation (λ (row : Row). below p row ≡ true) (filter (below p) rows)
    (policy_rows_falling_below p rows) (moved_below p rows) (filter_passes (below p) rows) in
    falls_append p (filter (λ row. eqb row.priority p) rows) (policy_rows_falling_below p rows)
    (filter_passes (λ (row : Row). eqb row.priority p) rows) low (falls_below p rows)

pub IsPriorityFalling-by_falling_priority : (rows : List Row) → IsPolicyPriorityFalling (policy_rows_by_falling_priority rows)
unfolding policy_rows_by_falling_priority
IsPriorityFalling-by_falling_priority rows = falls_below (2 ^ 32) rows

-- ---- one order

falling_head : (row : Row) (rows : List Row) → IsPolicyPriorityFalling (row ∷ rows)
    → All (λ (x : Row). x.priority ≤ row.priority) rows
falling_head row rows falling = λ k d within. falling 0 (suc k) d (omega arith) (omega arith)

falling_tail : (row : Row) (rows : List Row) → IsPolicyPriorityFalling (row ∷ rows) → IsPolicyPriorityFalling rows
falling_tail row rows falling = λ i j d less within. falling (suc i) (suc j) d (omega arith)
    (omega arith)

-- 1 for a row of this priority
abbrev has : ℕ → Row → ℕ
has q row = cond (eqb row.priority q) 1 0

-- a priority that a row has is no higher than all of them
bound_from_count : (q most : ℕ) (rows : List Row) → All (λ (x : Row). x.priority ≤ most) rows
    → 0 < sum_by (has q) rows → q ≤ most
bound_from_count q most [] all some = absurd (omega arith)
bound_from_count q most (row ∷ rows) all some = by_case (eqb row.priority q) refl
    (bound_from_count q most rows (All-tail (λ (x : Row). x.priority ≤ most) row rows all))
  where
    by_case : (b : Bool) → eqb row.priority q ≡ b → (0 < sum_by (has q) rows → q ≤ most) → q ≤ most
    by_case true is rest = omega
        (arith, eqb-true row.priority q is, All-head (λ (x : Row). x.priority ≤ most) row rows all)
    by_case false is rest = let none : has q row ≡ 0 = rw is refl in
        rest (omega (arith, sum_by-cons (has q) row rows, none))

counts_itself : (row : Row) (rows : List Row) → 0 < sum_by (has row.priority) (row ∷ rows)
counts_itself row rows =
    let one : has row.priority row ≡ 1 = rw (eq-eqb row.priority row.priority refl) refl in
    omega (arith, sum_by-cons (has row.priority) row rows, one)

-- two lists that fall, of the same rows: rows of one priority are one
same_falling : (P : Row → Type 0) → ((x y : Row) → P x → P y → x.priority ≡ y.priority → x ≡ y)
    → (xs ys : List Row) → IsPolicyPriorityFalling xs → IsPolicyPriorityFalling ys → All P xs → All P ys
    → ((q : ℕ) → sum_by (has q) xs ≡ sum_by (has q) ys) → xs ≡ ys
same_falling P one [] [] f g p q counts = refl
same_falling P one [] (y ∷ ys) f g p q counts =
    absurd (omega (arith, counts_itself y ys, counts y.priority))
same_falling P one (x ∷ xs) [] f g p q counts =
    absurd (omega (arith, counts_itself x xs, counts x.priority))
same_falling P one (x ∷ xs) (y ∷ ys) f g p q counts =
    let low = bound_from_count x.priority y.priority (y ∷ ys)
    (All-cons (λ (r : Row). r.priority ≤ y.priority) y ys (omega arith) (falling_head y ys g))
    (omega (arith, counts_itself x xs, counts x.priority)) in
    let high = bound_from_count y.priority x.priority (x ∷ xs)
    (All-cons (λ (r : Row). r.priority ≤ x.priority) x xs (omega arith) (falling_head x xs f))
    (omega (arith, counts_itself y ys, counts y.priority)) in
    let heads = one x y (All-head P x xs p) (All-head P y ys q) (omega (arith, low, high)) in
    let tails = same_falling P one xs ys (falling_tail x xs f) (falling_tail y ys g)
    (All-tail P x xs p) (All-tail P y ys q) (λ k. omega (
      arith,
      counts k,
      sum_by-cons (has k) x xs,
      sum_by-cons (has k) y ys,
      ap (has k) heads,
    )) in
    cc

-- rows of distinct priorities in falling order are the defined list
pub same_sorted : (rows sorted : List Row) → All IsSoundPolicyRow rows → PolicyHasDistinctPriorities rows
    → IsPermutation rows sorted → IsPolicyPriorityFalling sorted → sorted ≡ policy_rows_by_falling_priority rows
same_sorted rows sorted sound distinct moved falling =
    let all = All-contains_itself rows in
    let defined = IsPermutation-by_falling_priority rows sound in
    same_falling (Contains rows) (one_of_priority rows distinct) sorted (policy_rows_by_falling_priority rows)
    falling (IsPriorityFalling-by_falling_priority rows)
    (All-permutation (Contains rows) rows sorted moved all)
    (All-permutation (Contains rows) rows (policy_rows_by_falling_priority rows) defined all)
    (λ q. sum_by-IsPermutation (has q) rows sorted moved
    ∙ sym (sum_by-IsPermutation (has q) rows (policy_rows_by_falling_priority rows) defined))

-- what the sort ensures, where each call gives the priority for the opposite order
pub falling_from_sorted : (rows : List Row)
    → IsSortedBy (λ (x y : Row). is_lt (nat_cmp y.priority x.priority)) rows → IsPolicyPriorityFalling rows
falling_from_sorted [] sorted = λ i j d less within. absurd (omega arith)
falling_from_sorted (row ∷ []) sorted = λ i j d less within. absurd (omega arith)
falling_from_sorted (row ∷ next ∷ rows) sorted =
    let tail = falling_from_sorted (next ∷ rows) (λ k d low high.
    let next_place : suc k + 1 ≡ suc (k + 1) = omega arith in
    subst (λ n. is_lt (nat_cmp (get_or (next ∷ rows) k d).priority
    (get_or (row ∷ next ∷ rows) n d).priority) ≡ false) next_place
    (sorted (suc k) d (omega arith) (omega arith))) in
    let here : next.priority ≤ row.priority = ge_from_not_lt row.priority next.priority
    (sorted 0 row (omega arith) (omega arith)) in
    AllPairs-cons (λ (x later : Row). later.priority ≤ x.priority) row (next ∷ rows)
    (All-cons (λ (x : Row). x.priority ≤ row.priority) next rows here
    (λ k d h. omega (arith, falling_head next rows tail k d h, here))) tail

-- ---- the first that passes, among rows by falling priority

-- it passes, and exceeds what else passes
FirstPasses : (Row → Bool) → List Row → Option Row → Type 0
FirstPasses p rows found = MatchOption found (All (λ row. p row ≡ false) rows)
    (λ row. Contains rows row × (p row ≡ true)
    × All (λ other. p other ≡ true → other.priority ≤ row.priority) rows)

first_passes : (p : Row → Bool) (rows : List Row) → IsPolicyPriorityFalling rows
    → FirstPasses p rows (find p rows)
unfolding FirstPasses
first_passes p [] falling = All-nil _
first_passes p (row ∷ rows) falling = by_case (p row) refl (find p rows)
    (first_passes p rows (falling_tail row rows falling))
  where
    by_case : (b : Bool) → p row ≡ b → (found : Option Row) → FirstPasses p rows found
        → FirstPasses p (row ∷ rows) (cond b (Some row) found)
    by_case true is found rest = (
      (0, omega arith, refl),
      is,
      All-cons (λ (x : Row). p x ≡ true → x.priority ≤ row.priority)
          row rows (λ _. omega arith) (λ k d h _. falling_head row rows falling k d h),
    )
    by_case false is None rest = All-cons (λ x. p x ≡ false) row rows is rest
    by_case false is (Some found) rest = (
      Contains-append_right (row ∷ []) rows found rest.0,
      rest.1,
      All-cons (λ (x : Row). p x ≡ true → x.priority ≤ found.priority) row rows
          (λ passes. absurd (cc)) rest.2,
    )

pub filter_none : (p : Row → Bool) (rows : List Row) → All (λ row. p row ≡ false) rows
    → filter p rows ≡ []
filter_none p [] all = refl
filter_none p (row ∷ rows) all =
    rw (all 0 row (omega arith)) (filter_none p rows (All-tail (λ row. p row ≡ false) row rows all))

in_filter : (p : Row → Bool) (rows : List Row)
    → All (λ row. p row ≡ true → Contains (filter p rows) row) rows
in_filter p [] = All-nil _
in_filter p (row ∷ rows) = by_case (p row) refl (in_filter p rows) where
  by_case : (b : Bool) → p row ≡ b → All (λ x. p x ≡ true → Contains (filter p rows) x) rows
      → All (λ x. p x ≡ true → Contains (cond b (row ∷ filter p rows) (filter p rows)) x)
      (row ∷ rows)
  by_case true is rest = All-cons (λ x. p x ≡ true → Contains (row ∷ filter p rows) x) row rows
      (λ _. (0, omega arith, refl))
      (λ k d h passes. Contains-append_right (row ∷ []) (filter p rows) _ (rest k d h passes))
  by_case false is rest = All-cons (λ x. p x ≡ true → Contains (filter p rows) x) row rows
      (λ passes. absurd (cc)) rest

-- among rows by falling priority the first that passes is the highest
pub find-by_falling_priority : (p : Row → Bool) (rows : List Row) → All IsSoundPolicyRow rows
    → PolicyHasDistinctPriorities rows → find p (policy_rows_by_falling_priority rows) ≡ highest_policy_row (filter p rows)
unfolding FirstPasses
find-by_falling_priority p rows sound distinct = by_case (find p (policy_rows_by_falling_priority rows))
    (first_passes p (policy_rows_by_falling_priority rows) (IsPriorityFalling-by_falling_priority rows))
  where
    by_case : (found : Option Row) → FirstPasses p (policy_rows_by_falling_priority rows) found
        → found ≡ highest_policy_row (filter p rows)
    by_case None none =
        let all = All-permutation (λ row. p row ≡ false) (policy_rows_by_falling_priority rows) rows
        (IsPermutation-sym rows (policy_rows_by_falling_priority rows)
        (IsPermutation-by_falling_priority rows sound)) none in
        ap highest_policy_row (sym (filter_none p rows all))
    by_case (Some row) first =
        let back = IsPermutation-sym rows (policy_rows_by_falling_priority rows)
        (IsPermutation-by_falling_priority rows sound) in
        let there = Contains-permutation (policy_rows_by_falling_priority rows) rows row back first.0 in
        let most = All-permutation (λ (other : Row). p other ≡ true → other.priority ≤ row.priority)
        (policy_rows_by_falling_priority rows) rows back first.2 in
        let kept = All-filter p (λ (other : Row). p other ≡ true → other.priority ≤ row.priority)
        rows most in
        let is : IsHighestPolicyRowIn (filter p rows) row = record {
          member = All-contains (λ row. p row ≡ true → Contains (filter p rows) row) rows row
              (in_filter p rows) there first.1;
          highest = λ k d h. kept k d h (filter_passes p rows k d h);
        } in
        sym (highest_is (filter p rows) row
        (AllPairs-filter (λ (x y : Row). x.priority ≢ y.priority) p rows distinct) is)
