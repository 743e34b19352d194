-- The first of the switches that have room: what a rising list gives, and that only one list is it.
use Rattle.std.proofs.Common.{[], ◌&&◌, ◌+◌, ◌-◌, ◌<◌, ◌^◌, ◌∙◌, ◌∷◌, ◌≡◌, ◌≢◌, ◌≤◌, All, AllPairs, Bool, List, MatchOption, None, Option, Some, ap, arith, cond, eq-eqb, eqb, false, filter, get_or, inl, inr, leb, leb-true, length, length-take, min, ne_eqb, not, refl, subst, suc, sym, take, true, true≢false, zero, ℕ, rules}
use Rattle.base.proofs.Exports.{All-from_recursion, AllByRecursion, and_from, and_parts, cases_Bool, cases_eq, cases_lt, false≢true, list_any, nat_tests, not-true, not_from_false, or_parts, recursion_from_All, sum_by-cons}
use Rattle.placement.specs.Order.{in_placement_order}
use Rattle.placement.specs.Placement.{is_earlier_in_placement, is_lighter_placement_switch, placement_has_room, placement_with_room, AreLightestPlacementSwitches}
use Rattle.placement.proofs.PlacementOrder.{IsOrder, Rises, one_of, one_of-same, one_of-other, count, count-filter, count-range-le, count-range_within, length-in_order, sum-in_order, rises-in_order, each_from_count, each_by_count, pairs_from_rises, rises_from_pairs}

-- ---- the two orders

pub earlier_order : (sizes : List ℕ) → IsOrder (is_earlier_in_placement sizes)
unfolding is_earlier_in_placement
earlier_order sizes = record {
  never = λ a. grind (arith, nat_tests);
  trans = λ a b c p q. grind (arith, nat_tests);
  total = λ a b other later. grind (arith, nat_tests);
}

pub lighter_order : (load : ℕ → ℕ) → IsOrder (is_lighter_placement_switch load)
unfolding is_lighter_placement_switch
lighter_order load = search (rules, nat_tests)

-- ---- the front of a rising list

each-take : (P : ℕ → Type 0) (n : ℕ) (xs : List ℕ) → AllByRecursion P xs
    → AllByRecursion P (take n xs)
each-take P zero xs each = tt
each-take P (suc n) [] each = tt
each-take P (suc n) (x ∷ xs) each = (each.0, each-take P n xs each.1)

rises-take : (before : ℕ → ℕ → Bool) (n : ℕ) (xs : List ℕ) → Rises before xs
    → Rises before (take n xs)
rises-take before zero xs rises = tt
rises-take before (suc n) [] rises = tt
rises-take before (suc n) (x ∷ xs) rises =
    (each-take (λ y. before x y ≡ true) n xs rises.0, rises-take before n xs rises.1)

-- what is in the list and not at its front comes after each of the front
after-take : (before : ℕ → ℕ → Bool) (n : ℕ) (xs : List ℕ) (z : ℕ) → Rises before xs
    → 0 < count z xs → list_any (eqb z) (take n xs) ≡ false
    → AllByRecursion (λ x. before x z ≡ true) (take n xs)
after-take before zero xs z rises there none = tt
after-take before (suc n) [] z rises there none = tt
after-take before (suc n) (x ∷ xs) z rises there none =
    let parts = or_parts (eqb z x) (list_any (eqb z) (take n xs)) none in
    let other : z ≢ x = λ same. absurd (true≢false (sym (eq-eqb z x same) ∙ parts.0)) in
    let later : 0 < count z xs = omega (arith, sum_by-cons (one_of z) x xs, one_of-other z x other)
    in (
      each_from_count (λ y. before x y ≡ true) z xs rises.0 later,
      after-take before n xs z rises.1 later parts.1,
    )

has_room-within : (load : ℕ → ℕ) (rooms : List ℕ) (size s : ℕ) → placement_has_room load rooms size s ≡ true
    → s < length rooms
unfolding placement_has_room
has_room-within load rooms size s room = grind (arith, nat_tests)

-- a sum that stops at its type's end is above the same rooms
pub capped_within : (n room : ℕ) → room < 2 ^ 32 → leb (min n (2 ^ 64 - 1)) room ≡ leb n room
capped_within n room small = grind (arith, nat_tests)

-- a switch is listed once if it has room, and else not at all
pub count-placement_with_room : (load : ℕ → ℕ) (rooms : List ℕ) (size s : ℕ)
    → count s (placement_with_room load rooms size) ≡ cond (placement_has_room load rooms size s) 1 0
count-placement_with_room load rooms size s =
    search (rules, count-filter, count-range-le, count-range_within, has_room-within)

pub count-placement_with_room-le : (load : ℕ → ℕ) (rooms : List ℕ) (size s : ℕ)
    → count s (placement_with_room load rooms size) ≤ 1
count-placement_with_room-le load rooms size s = grind (arith, count-placement_with_room load rooms size s)

-- a list that rises, of the switches that have room: its front is the first of them
pub front_is_first : (held load : ℕ → ℕ) (rooms : List ℕ) (size n : ℕ) (xs : List ℕ)
    → Rises (is_lighter_placement_switch load) xs → ((s : ℕ) → count s xs ≡ count s (placement_with_room held rooms size))
    → n ≤ length xs → AreLightestPlacementSwitches held load rooms size n (take n xs)
front_is_first held load rooms size n xs rises counts enough =
    let fits : (s : ℕ) → 0 < count s xs → placement_has_room held rooms size s ≡ true = λ s there.
    grind (arith, counts s, count-placement_with_room held rooms size s) in record {
      number = omega (arith, length-take n xs);
      fit = All-from_recursion (λ s. placement_has_room held rooms size s ≡ true) (take n xs)
          (each-take (λ s. placement_has_room held rooms size s ≡ true) n xs
          (each_by_count (λ s. placement_has_room held rooms size s ≡ true) xs fits));
      rising = pairs_from_rises (is_lighter_placement_switch load) (take n xs)
          (rises-take (is_lighter_placement_switch load) n xs rises);
      least = λ other room none. All-from_recursion
          (λ s. is_lighter_placement_switch load s other ≡ true) (take n xs) (after-take (is_lighter_placement_switch load) n xs other
          rises (grind (arith, counts other, count-placement_with_room held rooms size other)) none);
    }

-- so is the front of the switches that have room, in order
pub first_in_order : (held load : ℕ → ℕ) (rooms : List ℕ) (size n : ℕ)
    → n ≤ length (in_placement_order (is_lighter_placement_switch load) (placement_with_room held rooms size))
    → AreLightestPlacementSwitches held load rooms size n (take n (in_placement_order (is_lighter_placement_switch load) (placement_with_room held rooms size)))
first_in_order held load rooms size n enough =
    search (rules, front_is_first, rises-in_order, lighter_order, count-placement_with_room-le, sum-in_order)

-- the same order, by numbers that are the same
pub order_along : (held held' loads loads' rooms : List ℕ) (size size' : ℕ) (switches : List ℕ)
    → held ≡ held' → loads ≡ loads' → size ≡ size' → switches
    ≡ in_placement_order (is_lighter_placement_switch (λ s. get_or loads s 0)) (placement_with_room (λ s. get_or held s 0) rooms size)
    → switches ≡ in_placement_order (is_lighter_placement_switch (λ s. get_or loads' s 0))
    (placement_with_room (λ s. get_or held' s 0) rooms size')
order_along held held' loads loads' rooms size size' switches holds carries large is = search rules

-- what a search says that found nothing
pub none_of : (found : Option (List ℕ)) (few : Type 0) (first : List ℕ → Type 0)
    → MatchOption found few first → ((targets : List ℕ) → found ≡ Some targets → ⊥) → few
none_of None few first said none = said
none_of (Some targets) few first said none = absurd (none targets refl)

-- fewer switches in order are fewer with room
pub fewer_in_order : (held load : ℕ → ℕ) (rooms : List ℕ) (size n : ℕ) (switches : List ℕ)
    → switches ≡ in_placement_order (is_lighter_placement_switch load) (placement_with_room held rooms size) → length switches < n
    → length (placement_with_room held rooms size) < n
fewer_in_order held load rooms size n switches is fewer = search (rules, length-in_order)

-- the front of the switches in order
pub first_of_order : (held load : ℕ → ℕ) (rooms : List ℕ) (size n : ℕ) (switches targets : List ℕ)
    → switches ≡ in_placement_order (is_lighter_placement_switch load) (placement_with_room held rooms size) → n ≤ length switches
    → targets ≡ take n switches → AreLightestPlacementSwitches held load rooms size n targets
first_of_order held load rooms size n switches targets is enough front =
    search (rules, first_in_order)

-- ---- one list alone is the first

-- of numbers that pass a test, these are the first in an order
record IsFront (before : ℕ → ℕ → Bool) (passes : ℕ → Bool) (xs : List ℕ) : Type 0 where
  each : AllByRecursion (λ x. passes x ≡ true) xs
  rises : Rises before xs
  least : (z : ℕ) → passes z ≡ true → list_any (eqb z) xs ≡ false
      → AllByRecursion (λ x. before x z ≡ true) xs

pub among_holds : (P : ℕ → Type 0) (z : ℕ) (xs : List ℕ) → AllByRecursion P xs
    → list_any (eqb z) xs ≡ true → P z
among_holds P z [] each among = absurd (false≢true among)
among_holds P z (x ∷ xs) each among = elim (cases_eq z x) [
  | inl same ↦ subst P (sym same) each.0
  | inr other ↦ among_holds P z xs each.1 (rw (ne_eqb z x other) at among)
]

-- the head of the one front is the head of the other, or comes after it
after_head : (before : ℕ → ℕ → Bool) (passes : ℕ → Bool) (x y : ℕ) (xs ys : List ℕ)
    → IsFront before passes (x ∷ xs) → IsFront before passes (y ∷ ys) → x ≢ y → before y x ≡ true
after_head before passes x y xs ys p q other = elim (cases_Bool (list_any (eqb x) ys)) [
  | inl among ↦ among_holds (λ z. before y z ≡ true) x ys q.rises.0 among
  | inr absent ↦ (q.least x p.each.0 (rw (ne_eqb x y other) absent)).0
]

-- without its head a front is one of the numbers that pass and are not the head
front-tail : (before : ℕ → ℕ → Bool) (passes : ℕ → Bool) (x : ℕ) (xs : List ℕ) → IsOrder before
    → IsFront before passes (x ∷ xs) → IsFront before (λ z. passes z && not (eqb z x)) xs
front-tail before passes x xs order front = record {
  each = both xs front.each.1 front.rises.0;
  rises = front.rises.1;
  least = λ z pass none. let parts = and_parts (passes z) (not (eqb z x)) pass in
      (front.least z parts.0 (rw (not-true (eqb z x) parts.1) none)).1;
} where
  both : (ys : List ℕ) → AllByRecursion (λ y. passes y ≡ true) ys
      → AllByRecursion (λ y. before x y ≡ true) ys
      → AllByRecursion (λ y. (passes y && not (eqb y x)) ≡ true) ys
  both [] each after = tt
  both (y ∷ ys) each after =
      let other : y ≢ x = λ same.
      false≢true (sym (order.never x) ∙ subst (λ z. before x z ≡ true) same after.0) in (
        and_from (passes y) (not (eqb y x)) each.0 (not_from_false (eqb y x) (ne_eqb y x other)),
        both ys each.1 after.1,
      )

same_front : (before : ℕ → ℕ → Bool) → IsOrder before → (passes : ℕ → Bool) (xs ys : List ℕ)
    → length xs ≡ length ys → IsFront before passes xs → IsFront before passes ys → xs ≡ ys
same_front before order passes [] [] len p q = refl
same_front before order passes [] (y ∷ ys) len p q = absurd (omega arith)
same_front before order passes (x ∷ xs) [] len p q = absurd (omega arith)
same_front before order passes (x ∷ xs) (y ∷ ys) len p q = elim (cases_eq x y) [
  | inl same ↦ let q' = subst (λ z. IsFront before passes (z ∷ ys)) (sym same) q in
      let tails = same_front before order (λ z. passes z && not (eqb z x)) xs ys (omega arith)
      (front-tail before passes x xs order p) (front-tail before passes x ys order q') in
      cc
  | inr other ↦ let flipped : y ≢ x = λ same. other (sym same) in
      absurd (false≢true (sym (order.never x) ∙ order.trans x y x (after_head before passes y x
      ys xs q p flipped) (after_head before passes x y xs ys p q other)))
]

front_of : (held load : ℕ → ℕ) (rooms : List ℕ) (size n : ℕ) (xs : List ℕ)
    → AreLightestPlacementSwitches held load rooms size n xs → IsFront (is_lighter_placement_switch load) (placement_has_room held rooms size) xs
front_of held load rooms size n xs first = record {
  each = recursion_from_All (λ s. placement_has_room held rooms size s ≡ true) xs first.fit;
  rises = rises_from_pairs (is_lighter_placement_switch load) xs first.rising;
  least = λ z room none. recursion_from_All (λ s. is_lighter_placement_switch load s z ≡ true) xs
      (first.least z room none);
}

pub same_first : (held load : ℕ → ℕ) (rooms : List ℕ) (size n : ℕ) (xs ys : List ℕ)
    → AreLightestPlacementSwitches held load rooms size n xs → AreLightestPlacementSwitches held load rooms size n ys → xs ≡ ys
same_first held load rooms size n xs ys p q = same_front (is_lighter_placement_switch load) (lighter_order load)
    (placement_has_room held rooms size) xs ys (p.number ∙ sym q.number)
    (front_of held load rooms size n xs p) (front_of held load rooms size n ys q)

count-rises : (before : ℕ → ℕ → Bool) → IsOrder before → (xs : List ℕ) → Rises before xs → (z : ℕ)
    → count z xs ≤ 1
count-rises before order [] rises z = omega arith
count-rises before order (x ∷ xs) rises z = elim (cases_eq z x) [
  | inl same ↦ elim (cases_lt 0 (count z xs)) [
    | inl again ↦ absurd (false≢true (sym (order.never x)
        ∙ rw same at (each_from_count (λ y. before x y ≡ true) z xs rises.0 again)))
    | inr none ↦ omega (
      arith,
      sum_by-cons (one_of z) x xs,
      one_of-same x,
      ap (λ y. one_of y x) same,
    )
  ]
  | inr other ↦ omega (
    arith,
    sum_by-cons (one_of z) x xs,
    one_of-other z x other,
    count-rises before order xs rises.1 z,
  )
]

-- all numbers of a list but this one
abbrev without : ℕ → List ℕ → List ℕ
without x ys = filter (λ y. not (eqb x y)) ys

length-without : (x : ℕ) (ys : List ℕ) → length (without x ys) + count x ys ≡ length ys
length-without x [] = refl
length-without x (y ∷ ys) = by_case (eqb x y) refl (length-without x ys) where
  by_case : (b : Bool) → eqb x y ≡ b → length (without x ys) + count x ys ≡ length ys
      → length (cond (not b) (y ∷ without x ys) (without x ys)) + count x (y ∷ ys) ≡ suc (length ys)
  by_case true is rest = let one : one_of x y ≡ 1 = rw is refl in
      omega (arith, sum_by-cons (one_of x) y ys, one, rest)
  by_case false is rest = let none : one_of x y ≡ 0 = rw is refl in
      omega (arith, sum_by-cons (one_of x) y ys, none, rest)

length_by_count : (xs ys : List ℕ) → ((z : ℕ) → count z xs ≤ 1)
    → ((z : ℕ) → count z xs ≤ count z ys) → length xs ≤ length ys
length_by_count [] ys once there = omega arith
length_by_count (x ∷ xs) ys once there =
    let fewer : (z : ℕ) → count z xs ≤ count z (without x ys) = λ z. elim (cases_eq x z) [
      | inl same ↦ omega (
        arith,
        once z,
        sum_by-cons (one_of z) x xs,
        one_of-same x,
        ap (λ y. one_of y x) same,
      )
      | inr other ↦
          let passes : not (eqb x z) ≡ true = not_from_false (eqb x z) (ne_eqb x z other) in
          let same : count z (without x ys) ≡ count z ys =
          (count-filter (λ y. not (eqb x y)) z ys) ∙ ap (λ b. cond b (count z ys) 0) passes in
          omega (arith, same, there z, sum_by-cons (one_of z) x xs)
    ] in
    omega (
      arith,
      length_by_count xs (without x ys)
          (λ z. omega (arith, once z, sum_by-cons (one_of z) x xs)) fewer,
      length-without x ys,
      there x,
      sum_by-cons (one_of x) x xs,
      one_of-same x,
    )

-- as many switches have room
pub room_for_first : (held load : ℕ → ℕ) (rooms : List ℕ) (size n : ℕ) (xs : List ℕ)
    → AreLightestPlacementSwitches held load rooms size n xs → n ≤ length (placement_with_room held rooms size)
room_for_first held load rooms size n xs first =
    let rises = rises_from_pairs (is_lighter_placement_switch load) xs first.rising in
    let once = count-rises (is_lighter_placement_switch load) (lighter_order load) xs rises in
    let there : (s : ℕ) → count s xs ≤ count s (placement_with_room held rooms size) = λ s.
    elim (cases_lt 0 (count s xs)) [
      | inl some ↦ let room = each_from_count (λ t. placement_has_room held rooms size t ≡ true) s xs
          (recursion_from_All (λ t. placement_has_room held rooms size t ≡ true) xs first.fit) some in
          grind (arith, once s, count-placement_with_room held rooms size s)
      | inr none ↦ omega arith
    ] in
    omega (arith, length_by_count xs (placement_with_room held rooms size) once there, first.number)

-- ---- what the first switches are

pub first_there : (held load : ℕ → ℕ) (rooms : List ℕ) (size n : ℕ) (xs : List ℕ)
    → AreLightestPlacementSwitches held load rooms size n xs → All (λ s. s < length rooms) xs
first_there held load rooms size n xs first = search (rules, has_room-within)

pub first_room : (held load : ℕ → ℕ) (rooms : List ℕ) (size n : ℕ) (xs : List ℕ)
    → AreLightestPlacementSwitches held load rooms size n xs → All (λ s. held s + size ≤ get_or rooms s 0) xs
unfolding placement_has_room
first_room held load rooms size n xs first = search (rules, leb-true)

pub first_distinct : (held load : ℕ → ℕ) (rooms : List ℕ) (size n : ℕ) (xs : List ℕ)
    → AreLightestPlacementSwitches held load rooms size n xs → AllPairs (λ a b. a ≡ b → ⊥) xs
first_distinct held load rooms size n xs first = λ i j d less within same. false≢true
    (sym ((lighter_order load).never (get_or xs i d)) ∙ subst
    (λ z. is_lighter_placement_switch load (get_or xs i d) z ≡ true) (sym same) (first.rising i j d less within))

-- the same switches are first where the same is held and carried
pub first_along : (held held' load load' : ℕ → ℕ) (rooms : List ℕ) (size n : ℕ) (xs ys : List ℕ)
    → held ≡ held' → load ≡ load' → xs ≡ ys → AreLightestPlacementSwitches held load rooms size n xs
    → AreLightestPlacementSwitches held' load' rooms size n ys
first_along held held' load load' rooms size n xs ys holds carries same first = search rules
