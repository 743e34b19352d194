-- The first element that passes a test, and its place.
use Rattle.std.proofs.Common.{[], ◌&&◌, ◌++◌, ◌+◌, ◌<◌, ◌||◌, ◌∙◌, ◌∷◌, ◌≡◌, ◌≤◌, All, Bool, Contains, IfSome, IsSome, List, MatchOption, None, Option, Some, ap, arith, cond, count_by, false, filter, find, get_or, inl, inr, is_some, le-ltb, length, lt-ltb, map, min, not, option_and_then, option_map, position, refl, slice_get, subst, suc, sym, true, zero, ℕ, rules}
use Rattle.std.specs.List.{list_any, position_from, position_or_len}
use Rattle.std.proofs.lemmas.Bool.{both_ways, cases_lt}
use Rattle.std.proofs.lemmas.Iterator.Adapters.{position_from-zero}
use Rattle.std.proofs.lemmas.List.{length-map}
use Rattle.std.proofs.lemmas.List.Elements.{All-head, All-nil, All-tail}
use Rattle.std.proofs.lemmas.List.Folds.{find_at}
use Rattle.std.proofs.lemmas.List.Quantifiers.{position-Some}
use Rattle.std.proofs.lemmas.List.Sums.{position_or_len_is}
use Rattle.std.proofs.lemmas.Option.{get_or_from_slice_get, none-some, same_Some, slice_get-get_or, slice_get_past, slice_get_within}
use Rattle.base.proofs.ListLemmas.{count-filter-le, count_by-cons, none_from_not_some}
use Rattle.base.proofs.ListsOfAll.{contains_later}

none_from_count : {X : Type 0} (test : X → Bool) (xs : List X) → count_by test xs ≡ 0
    → find test xs ≡ None
none_from_count test [] none = refl
none_from_count {X} test (x ∷ xs) none = search (rules, count_by-cons, none_from_count test xs)

pub some_from_count : {X : Type 0} (test : X → Bool) (xs : List X) → count_by test xs ≡ 1 → (x : X)
    × (find test xs ≡ Some x)
some_from_count test [] one = absurd (omega arith)
some_from_count {X} test (x ∷ xs) one = by_case (test x) refl (some_from_count test xs) where
  by_case : (b : Bool) → test x ≡ b → (count_by test xs ≡ 1 → (y : X) × (find test xs ≡ Some y))
      → (y : X) × (cond b (Some x) (find test xs) ≡ Some y)
  by_case true passes rest = (x, refl)
  by_case false fails rest = rest (grind (arith, count_by-cons test x xs))

-- among the elements that are kept, the one that passes is there if it is kept
pub find-filter : {X : Type 0} (test kept : X → Bool) (xs : List X) (x : X) → count_by test xs ≡ 1
    → find test xs ≡ Some x → find test (filter kept xs) ≡ cond (kept x) (Some x) None
find-filter test kept [] x one is = absurd (omega arith)
find-filter {X} test kept (y ∷ ys) x one is =
    search (rules, count_by-cons, none_from_count, count-filter-le, find-filter test kept ys x)

pub find-map : {X Y : Type 0} (test : Y → Bool) (f : X → Y) (xs : List X)
    → find test (map f xs) ≡ option_map f (find (λ x. test (f x)) xs)
find-map test f [] = refl
find-map {X} {Y} test f (x ∷ xs) = search (rules, find-map test f xs)

-- what is found passes and is there
pub find-there : {X : Type 0} (test : X → Bool) (xs : List X) (x : X) → find test xs ≡ Some x
    → Contains xs x × (test x ≡ true)
find-there test [] x is = absurd (cc)
find-there {X} test (y ∷ ys) x is = by_case (test y) refl is (find-there test ys x) where
  by_case : (b : Bool) → test y ≡ b → cond b (Some y) (find test ys) ≡ Some x
      → (find test ys ≡ Some x → Contains ys x × (test x ≡ true)) → Contains (y ∷ ys) x
      × (test x ≡ true)
  by_case true passes is rest = let same : y ≡ x =
      cc in ((0, omega arith, same), ap test (sym same) ∙ passes)
  by_case false fails is rest = let later =
      rest is in ((suc later.0.0, omega (arith, later.0.1), later.0.2), later.1)

pub find_ends : {X : Type 0} (test : X → Bool) (earlier : List X) (last : X) → test last ≡ true
    → IsSome (find test (earlier ++ last ∷ []))
find_ends test [] last passes = rw passes refl
find_ends {X} test (x ∷ earlier) last passes = search (rules, find_ends test earlier last passes)

position_or_len-map : {X Y : Type 0} (test : Y → Bool) (f : X → Y) (xs : List X) →
    position_or_len test (map f xs) ≡ position_or_len (λ x. test (f x)) xs
position_or_len-map test f [] = refl
position_or_len-map test f (x ∷ xs) = cc (position_or_len-map test f xs)

pub position-map : {X Y : Type 0} (test : Y → Bool) (f : X → Y) (xs : List X) →
    position test (map f xs) ≡ position (λ x. test (f x)) xs
position-map test f xs = cc (position_or_len-map test f xs, length-map xs f)

-- what is true of each is true of the one that is found
pub found_is : {X : Type 0} (P : X → Type 0) (test : X → Bool) (xs : List X) → All P xs
    → IfSome (find test xs) P
found_is P test [] all = tt
found_is {X} P test (x ∷ xs) all = by_case (test x) (found_is P test xs (All-tail P x xs all)) where
  by_case : (b : Bool) → IfSome (find test xs) P → IfSome (cond b (Some x) (find test xs)) P
  by_case true rest = All-head P x xs all
  by_case false rest = rest

pub place_none : {X : Type 0} (xs : List X) → position_or_len (λ x. false) xs ≡ length xs
place_none [] = refl
place_none (x ∷ xs) = omega (arith, place_none xs)

-- the first place that passes one of two tests
pub place_either : {X : Type 0} (p q : X → Bool) (xs : List X) →
    position_or_len (λ x. p x || q x) xs ≡ min (position_or_len p xs) (position_or_len q xs)
place_either p q [] = refl
place_either {X} p q (x ∷ xs) = search (rules, place_either p q xs)

-- the first one that passes a test passes another too
pub place_both : {X : Type 0} (p q : X → Bool) (xs : List X) (x : X) →
    slice_get xs (position_or_len p xs) ≡ Some x → q x ≡ true →
    position_or_len (λ y. p y && q y) xs ≡ position_or_len p xs
place_both p q [] x there holds = refl
place_both {X} p q (y ∷ ys) x there holds = by_case (p y) there (λ later. place_both p q ys x later holds)
  where
    n : ℕ
    n = position_or_len p ys

    both : ℕ
    both = position_or_len (λ z. p z && q z) ys

    by_case : (a : Bool) → slice_get (y ∷ ys) (cond (not a) (1 + n) 0) ≡ Some x →
        (slice_get ys n ≡ Some x → both ≡ n) →
        cond (not (a && q y)) (1 + both) 0 ≡ cond (not a) (1 + n) 0
    by_case true here rest = ap (λ b. cond (not b) (1 + both) 0) (ap q (same_Some y x here) ∙ holds)
    by_case false later rest = let next : suc n ≡ 1 + n = omega arith in
        ap (λ k. 1 + k) (rest (ap (slice_get (y ∷ ys)) next ∙ later))

-- none passes a test, so none passes another too
pub none_both : {X : Type 0} (p q : X → Bool) (xs : List X) → position_or_len p xs ≡ length xs →
    position_or_len (λ y. p y && q y) xs ≡ length xs
none_both p q [] none = refl
none_both {X} p q (y ∷ ys) none = search (rules, none_both p q ys)

pub find_none : {X : Type 0} (p : X → Bool) (xs : List X) → find p xs ≡ None
    → All (λ x. p x ≡ false) xs
find_none p [] none = All-nil (λ x. p x ≡ false)
find_none {X} p (x ∷ xs) none = search (rules, find_none p xs)

-- what is true of each item is true of the one that is found
pub found_all : {X : Type 0} (P : X → Type 0) (p : X → Bool) (xs : List X) (x : X) → All P xs
    → Some x ≡ find p xs → P x
found_all P p [] x all is = absurd cc
found_all P p (y ∷ ys) x all is =
    by_test (p y) (found_all P p ys x (λ k d within. all (suc k) d (omega arith))) is
  where
    by_test : (b : Bool) → (Some x ≡ find p ys → P x) → Some x ≡ cond b (Some y) (find p ys) → P x
    by_test true later same = let its : y ≡ x = cc in subst P its (all 0 y (omega arith))
    by_test false later same = later same

-- the first that passes is an element that passes; where there is none, none passes
pub find_found : {X : Type 0} (p : X → Bool) (xs : List X)
    → MatchOption (find p xs) (All (λ x. p x ≡ false) xs) (λ x. Contains xs x × (p x ≡ true))
find_found p [] = All-nil _
find_found {X} p (x ∷ xs) = search (rules, contains_later, find_found p xs)

-- the element at the first place that passes is the first that passes
pub find-position : {X : Type 0} (p : X → Bool) (xs : List X)
    → option_and_then (slice_get xs) (position p xs) ≡ find p xs
find-position {X} p xs =
    let n = position_or_len p xs in
    let at : Bool → Option X = λ b. option_and_then (slice_get xs) (cond b (Some n) None) in
    elim (cases_lt n (length xs)) [
      | inl within ↦ ap at (lt-ltb n (length xs) within) ∙ sym (find_at p xs)
      | inr past ↦ ap at (le-ltb n (length xs) past) ∙ sym (find_at p xs ∙ slice_get_past xs n past)
    ]

-- what is found passes the test
pub found_passes : {X : Type 0} (test : X → Bool) (xs : List X) (x : X) → find test xs ≡ Some x → test x ≡ true
found_passes test [] x is = cc is
found_passes test (y ∷ ys) x is = search (rules, found_passes test ys x)

none_pass : {X : Type 0} (test : X → Bool) (xs : List X) (k : ℕ) (x : X) → count_by test xs ≡ 0
    → slice_get xs k ≡ Some x → test x ≡ true → ⊥
none_pass test [] k x none is passes = none-some x is
none_pass test (y ∷ ys) zero x none is passes = search (rules, count_by-cons)
none_pass test (y ∷ ys) (suc k) x none is passes =
    none_pass test ys k x (omega (arith, none, count_by-cons test y ys)) is passes

-- where one element alone passes, it has one place
pub one_place : {X : Type 0} (test : X → Bool) (xs : List X) (j k : ℕ) (x y : X) → count_by test xs
    ≡ 1 → slice_get xs j ≡ Some x → test x ≡ true → slice_get xs k ≡ Some y → test y ≡ true → j ≡ k
one_place test [] j k x y one at_j p at_k q = absurd (none-some x at_j)
one_place test (z ∷ zs) zero zero x y one at_j p at_k q = refl
one_place test (z ∷ zs) zero (suc k) x y one at_j p at_k q =
    let same : z ≡ x = same_Some z x at_j in
    absurd (none_pass test zs k y
    (omega (arith, one, count_by-cons test z zs, ap {B = ℕ} (λ t. cond t 1 0) (ap test same ∙ p))) at_k q)
one_place test (z ∷ zs) (suc j) zero x y one at_j p at_k q =
    let same : z ≡ y = same_Some z y at_k in
    absurd (none_pass test zs j x
    (omega (arith, one, count_by-cons test z zs, ap {B = ℕ} (λ t. cond t 1 0) (ap test same ∙ q))) at_j p)
one_place {X} test (z ∷ zs) (suc j) (suc k) x y one at_j p at_k q =
    by_case (test z) refl (λ rest. one_place test zs j k x y rest at_j p at_k q)
  where
    by_case : (b : Bool) → test z ≡ b → (count_by test zs ≡ 1 → j ≡ k) → suc j ≡ suc k
    by_case true passes later = absurd (none_pass test zs j x
        (omega (arith, one, count_by-cons test z zs, ap {B = ℕ} (λ t. cond t 1 0) passes)) at_j p)
    by_case false fails later =
        ap suc (later (omega (arith, one, count_by-cons test z zs, ap {B = ℕ} (λ t. cond t 1 0) fails)))

pub find_agree : {X : Type 0} (p q : X → Bool) (xs : List X) → All (λ x. p x ≡ q x) xs
    → find p xs ≡ find q xs
find_agree p q [] agree = refl
find_agree {X} p q (x ∷ xs) agree =
    ap (λ t. cond t (Some x) (find p xs)) (All-head (λ z. p z ≡ q z) x xs agree)
    ∙ ap (cond (q x) (Some x)) (find_agree p q xs (All-tail (λ z. p z ≡ q z) x xs agree))

-- the first that passes is kept by a filter that keeps what passes
pub find_kept : {X : Type 0} (test kept : X → Bool) (xs : List X)
    → ((x : X) → test x ≡ true → kept x ≡ true) → find test (filter kept xs) ≡ find test xs
find_kept test kept [] keeps = refl
find_kept {X} test kept (x ∷ xs) keeps = search (rules, both_ways, find_kept test kept xs keeps)

pub found_from_count : {X : Type 0} (test : X → Bool) (xs : List X) → 1 ≤ count_by test xs
    → IsSome (find test xs)
found_from_count test [] one = absurd (omega arith)
found_from_count {X} test (x ∷ xs) one = search (rules, count_by-cons, found_from_count test xs)

some_position_from : {X : Type 0} (test : X → Bool) (i : ℕ) (xs : List X) → is_some (position_from test i xs)
    ≡ list_any test xs
some_position_from test i [] = refl
some_position_from test i (x ∷ xs) =
    elim (test x) as (λ b. is_some (cond b (Some i) (position_from test (i + 1) xs))
    ≡ (b || list_any test xs)) [ true ↦ refl | false ↦ some_position_from test (i + 1) xs ]

pub some_position : {X : Type 0} (test : X → Bool) (xs : List X) → is_some (position test xs)
    ≡ list_any test xs
some_position test xs = ap is_some (position_from-zero test xs) ∙ some_position_from test 0 xs

pub position_none : {X : Type 0} (test : X → Bool) (xs : List X) → list_any test xs ≡ false
    → position test xs ≡ None
position_none test xs none = none_from_not_some (position test xs) (some_position test xs ∙ none)

-- the first place that passes
pub position_at : {X : Type 0} (test : X → Bool) (xs : List X) (s : ℕ) (x : X) → slice_get xs s ≡ Some x
    → test x ≡ true → ((k : ℕ) → k < s → test (get_or xs k x) ≡ false) → position test xs ≡ Some s
position_at test xs s x there passes before =
    let within = slice_get_within xs s x there in
    let first = position_or_len_is test xs s x (omega (arith, within)) before
    (λ _. (ap test (get_or_from_slice_get xs s x x there) ∙ passes)) in
    rw (first, lt-ltb s (length xs) within) refl

pub position_row : {X : Type 0} (test : X → Bool) (xs : List X) (s : ℕ) (d : X)
    → position test xs ≡ Some s → (x : X) × (slice_get xs s ≡ Some x) × (test x ≡ true)
position_row test xs s d e = let found = position-Some test xs s d e in
    (get_or xs s d, slice_get-get_or xs s d found.0, found.1)
