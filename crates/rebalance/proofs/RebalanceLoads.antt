-- What switches carry under a placement: the bound is true of each placement that fits, and running
-- sums come to the traffic.
use Rattle.std.proofs.Common.{[], ◌*◌, ◌+◌, ◌<◌, ◌||◌, ◌∙◌, ◌∷◌, ◌≡◌, ◌≤◌, All, Bool, List, ap, arith, cond, eq-eqb, eqb, false, fold, get_or, length, map, max, ne_eqb, not, refl, suc, sum, sum_by, sym, take, true, true≢false, zero, zero-add, ℕ}
use Rattle.base.proofs.Exports.{AllByRecursion, div_ceil, div_ceil_times, fun_ext, get_or-map-range_with_len, get_or_default, length-map-range_with_len, list_any, or_left, range_more, range_with_len, same_lists, sum_by-le-sum_by, sum_by_push}
use Rattle.placement.specs.Placement.{is_placement_target, placement_targets_at}
use Rattle.placement.proofs.PlacementCallerLemmas.{each_by_count, range-within, sum-filter, sum_none}
use Rattle.rebalance.specs.Loads.{RebalanceFits, bound, rebalance_greatest, rebalance_greatest_traffic, is_rebalance_primary_target, rebalance_traffic, rebalance_usable_rooms}
use Rattle.rebalance.proofs.RebalanceSums.{most-each, most-le, passing-le, places-le, share-le, shared-le, sum-le, sum-places, sum-scaled, term-le}

-- ---- the traffic of a switch

-- what the partitions put on the switch whose first target it is
abbrev pub carried : List ℕ → List (List ℕ) → ℕ → ℕ → ℕ
carried weights P s p = cond (is_rebalance_primary_target P p s) (get_or weights p 0) 0

pub traffic-sum : (weights : List ℕ) (P : List (List ℕ)) (s : ℕ)
    → rebalance_traffic weights P s ≡ sum_by (carried weights P s) (range_with_len 0 (length weights))
traffic-sum weights P s = sum-filter (λ p. get_or weights p 0) (λ p. is_rebalance_primary_target P p s)
    (range_with_len 0 (length weights))

traffic-le : (n : ℕ) (weights : List ℕ) (P : List (List ℕ)) (s : ℕ) → s < n
    → rebalance_traffic weights P s ≤ rebalance_greatest_traffic n weights P
unfolding rebalance_greatest_traffic
traffic-le n weights P s within = let of : ℕ → ℕ = rebalance_traffic weights P in
    omega (
      arith,
      most-each 0 (map of (range_with_len 0 n)) s
          (omega (arith, length-map-range_with_len of 0 n, within)),
      get_or-map-range_with_len of 0 n s s 0 within (zero-add s),
    )

-- numbers that are the traffic of switches have its greatest
pub greatest-is : (n : ℕ) (weights : List ℕ) (P : List (List ℕ)) (numbers : List ℕ)
    → length numbers ≡ n → ((s : ℕ) → s < n → get_or numbers s 0 ≡ rebalance_traffic weights P s)
    → rebalance_greatest numbers ≡ rebalance_greatest_traffic n weights P
unfolding rebalance_greatest_traffic
greatest-is n weights P numbers len each =
    let of : ℕ → ℕ = rebalance_traffic weights P in
    let all = length-map-range_with_len of 0 n in
    ap (fold max 0) (same_lists numbers (map of (range_with_len 0 n)) (omega (arith, len, all))
    (λ k d within. get_or_default numbers k d 0 within ∙ each k (omega (arith, within, len))
    ∙ sym (get_or-map-range_with_len of 0 n k k d (omega (arith, within, len)) (zero-add k))))

-- ---- the first target

primary-among : (xs : List ℕ) → 0 < length xs → list_any (eqb (get_or xs 0 0)) (take 1 xs) ≡ true
primary-among [] some = absurd (omega arith)
primary-among (x ∷ xs) some = or_left (eqb x x) (list_any (eqb x) []) (eq-eqb x x refl)

front-among : (test : ℕ → Bool) (xs : List ℕ) → list_any test (take 1 xs) ≡ true
    → list_any test xs ≡ true
front-among test [] among = among
front-among test (x ∷ xs) among = by_case (test x) (list_any test xs) among where
  by_case : (b c : Bool) → (b || false) ≡ true → (b || c) ≡ true
  by_case true c is = refl
  by_case false c is = grind arith

-- the partition's first target
abbrev first_of : List (List ℕ) → ℕ → ℕ
first_of P p = get_or (placement_targets_at P p) 0 0

is-first : (sizes rooms : List ℕ) (backups : ℕ) (P : List (List ℕ)) (p : ℕ)
    → RebalanceFits sizes rooms backups P → p < length sizes → is_rebalance_primary_target P p (first_of P p) ≡ true
is-first sizes rooms backups P p fits within =
    primary-among (placement_targets_at P p) (omega (arith, fits.targets p within))

first-there : (sizes rooms : List ℕ) (backups : ℕ) (P : List (List ℕ)) (p : ℕ)
    → RebalanceFits sizes rooms backups P → p < length sizes → first_of P p < length rooms
first-there sizes rooms backups P p fits within =
    fits.there p within 0 0 (omega (arith, fits.targets p within))

-- ---- no placement goes below the bound

-- partitions that have rules, each with a weight, and a placement that fits
pub record IsSettled (n : ℕ) (sizes weights rooms : List ℕ) (backups : ℕ) (P : List (List ℕ))
    : Type 0 where
  pub each : length sizes ≡ length weights
  pub some : All (λ size. 0 < size) sizes
  pub few : length rooms ≤ n
  pub fits : RebalanceFits sizes rooms backups P

weight-le : (n : ℕ) (sizes weights rooms : List ℕ) (backups : ℕ) (P : List (List ℕ))
    → IsSettled n sizes weights rooms backups P → (p : ℕ) → p < length weights
    → get_or weights p 0 ≤ rebalance_greatest_traffic n weights P
weight-le n sizes weights rooms backups P settled p within =
    let s = first_of P p in
    let here : p < length sizes = omega (arith, settled.each, within) in
    let below : s < n = omega
    (arith, first-there sizes rooms backups P p settled.fits here, settled.few) in
    omega (
      arith,
      passing-le weights (λ o. is_rebalance_primary_target P o s) p within
          (is-first sizes rooms backups P p settled.fits here),
      traffic-le n weights P s below,
    )

-- a switch without room carries nothing
no-traffic : (n : ℕ) (sizes weights rooms : List ℕ) (backups : ℕ) (P : List (List ℕ))
    → IsSettled n sizes weights rooms backups P → (s : ℕ) → get_or rooms s 0 ≡ 0
    → rebalance_traffic weights P s ≡ 0
no-traffic n sizes weights rooms backups P settled s none = traffic-sum weights P s
    ∙ sum_none (carried weights P s) (range_with_len 0 (length weights))
    (each_by_count (λ p. carried weights P s p ≡ 0) (range_with_len 0 (length weights))
    (λ p there. by_case p (range-within p (length weights) there) (is_rebalance_primary_target P p s) refl))
  where
    by_case : (p : ℕ) → p < length weights → (b : Bool) → is_rebalance_primary_target P p s ≡ b
        → carried weights P s p ≡ 0
    by_case p within false is = ap (λ b. cond b (get_or weights p 0) 0) is
    by_case p within true is = let here : p < length sizes = omega (arith, settled.each, within) in
        absurd (omega (
          arith,
          passing-le sizes (λ o. is_placement_target P o s) p here (front-among (eqb s) (placement_targets_at P p) is),
          settled.fits.within s,
          settled.some p 0 here,
          none,
        ))

-- what the switches carry is all that is asked, and only those with room carry it
total-le : (n : ℕ) (sizes weights rooms : List ℕ) (backups : ℕ) (P : List (List ℕ))
    → IsSettled n sizes weights rooms backups P
    → sum weights ≤ rebalance_usable_rooms rooms * rebalance_greatest_traffic n weights P
total-le n sizes weights rooms backups P settled =
    let parts = range_with_len 0 (length weights) in
    let switches = range_with_len 0 n in
    let most = rebalance_greatest_traffic n weights P in
    let weight : ℕ → ℕ = λ p. get_or weights p 0 in
    let share : ℕ → ℕ = λ room. cond (not (eqb room 0)) most 0 in
    let had : AllByRecursion
    (λ p. weight p ≤ sum_by (λ s. cond (is_rebalance_primary_target P p s) (weight p) 0) switches) parts =
    each_by_count (λ p. weight p ≤ sum_by (λ s. cond (is_rebalance_primary_target P p s) (weight p) 0) switches) parts
    (λ p there. some_has p (range-within p (length weights) there)) in
    let spread = shared-le weight (is_rebalance_primary_target P) switches parts had in
    let same : sum_by (λ s. sum_by (carried weights P s) parts) switches
    ≡ sum_by (rebalance_traffic weights P) switches = ap (λ f. sum_by f switches)
    (fun_ext (λ s. sym (traffic-sum weights P s))) in
    let within = sum-le (rebalance_traffic weights P) (λ s. share (get_or rooms s 0)) switches
    (each_by_count (λ s. rebalance_traffic weights P s ≤ share (get_or rooms s 0)) switches
    (λ s there. by_case s (range-within s n there) (get_or rooms s 0) refl)) in
    omega (
      arith,
      (sum-places (λ x. x) refl weights (length weights) (omega arith)),
      spread,
      same,
      within,
      sum-places share refl rooms n settled.few,
      sum-scaled most (λ room. not (eqb room 0)) rooms,
    )
  where
    some_has : (p : ℕ) → p < length weights → get_or weights p 0
        ≤ sum_by (λ s. cond (is_rebalance_primary_target P p s) (get_or weights p 0) 0) (range_with_len 0 n)
    some_has p within =
        let s = first_of P p in
        let here : p < length sizes = omega (arith, settled.each, within) in
        let below : s < n = omega
        (arith, first-there sizes rooms backups P p settled.fits here, settled.few) in
        let all : cond (is_rebalance_primary_target P p s) (get_or weights p 0) 0 ≡ get_or weights p 0 =
        ap (λ b. cond b (get_or weights p 0) 0)
        (is-first sizes rooms backups P p settled.fits here) in
        omega (arith, term-le (λ t. cond (is_rebalance_primary_target P p t) (get_or weights p 0) 0) n s below, all)

    by_case : (s : ℕ) → s < n → (room : ℕ) → get_or rooms s 0 ≡ room
        → rebalance_traffic weights P s ≤ cond (not (eqb (get_or rooms s 0) 0)) (rebalance_greatest_traffic n weights P) 0
    by_case s below zero is =
        let none = ap (λ room. cond (not (eqb room 0)) (rebalance_greatest_traffic n weights P) 0) is in
        omega (arith, none, no-traffic n sizes weights rooms backups P settled s is)
    by_case s below (suc room) is =
        let some = ap (λ b. cond (not b) (rebalance_greatest_traffic n weights P) 0)
        (ne_eqb (get_or rooms s 0) 0 (λ same. absurd (omega (arith, same, is)))) in
        omega (arith, some, traffic-le n weights P s below)

some_of : (n : ℕ) → eqb n 0 ≡ false → 0 < n
some_of zero is = absurd (true≢false is)
some_of (suc n) is = omega arith

max_le : (a b m : ℕ) → a ≤ m → b ≤ m → max a b ≤ m
max_le a b m low high = omega arith

pub bound-le : (n : ℕ) (sizes weights rooms : List ℕ) (backups : ℕ) (P : List (List ℕ))
    → IsSettled n sizes weights rooms backups P → bound weights rooms ≤ rebalance_greatest_traffic n weights P
unfolding bound
bound-le n sizes weights rooms backups P settled = by_case (eqb (rebalance_usable_rooms rooms) 0) refl where
  by_case : (b : Bool) → eqb (rebalance_usable_rooms rooms) 0 ≡ b
      → cond b 0 (max (rebalance_greatest weights) (div_ceil (sum weights) (rebalance_usable_rooms rooms)))
      ≤ rebalance_greatest_traffic n weights P
  by_case true is = omega arith
  by_case false is =
      let some = some_of (rebalance_usable_rooms rooms) is in
      let even : div_ceil (sum weights) (rebalance_usable_rooms rooms) ≤ rebalance_greatest_traffic n weights P =
      share-le (sum weights) (rebalance_usable_rooms rooms) (rebalance_greatest_traffic n weights P)
      (div_ceil (sum weights) (rebalance_usable_rooms rooms)) (div_ceil_times (sum weights)
      (rebalance_usable_rooms rooms) some).1 (total-le n sizes weights rooms backups P settled) in
      max_le (rebalance_greatest weights) (div_ceil (sum weights) (rebalance_usable_rooms rooms))
      (rebalance_greatest_traffic n weights P) (most-le (rebalance_greatest_traffic n weights P) 0 weights (omega arith)
      (weight-le n sizes weights rooms backups P settled)) even

-- ---- running sums

-- one more partition
pub carried-more : (weights : List ℕ) (P : List (List ℕ)) (s k : ℕ)
    → sum_by (carried weights P s) (range_with_len 0 (k + 1))
    ≡ sum_by (carried weights P s) (range_with_len 0 k) + carried weights P s k
carried-more weights P s k = ap (sum_by (carried weights P s)) (range_more 0 k k (zero-add k))
    ∙ sum_by_push (carried weights P s) (range_with_len 0 k) k

-- what is carried so far, and one more weight, are within the sum of all
pub carried-within : (weights : List ℕ) (P : List (List ℕ)) (s k : ℕ) → k < length weights
    → sum_by (carried weights P s) (range_with_len 0 k) + get_or weights k 0 ≤ sum weights
carried-within weights P s k within =
    let weight : ℕ → ℕ = λ p. get_or weights p 0 in
    let few = sum_by-le-sum_by (carried weights P s) weight (range_with_len 0 k)
    (λ p. part_le (is_rebalance_primary_target P p s) (weight p)) in
    let next : sum_by weight (range_with_len 0 (k + 1))
    ≡ sum_by weight (range_with_len 0 k) + weight k = ap (sum_by weight)
    (range_more 0 k k (zero-add k)) ∙ sum_by_push weight (range_with_len 0 k) k in
    omega (arith, few, places-le weights (k + 1) (omega arith), next)
  where
    part_le : (b : Bool) (n : ℕ) → cond b n 0 ≤ n
    part_le true n = omega arith
    part_le false n = omega arith

-- one more turn of the sums
pub carried-step : (weights : List ℕ) (P : List (List ℕ)) (s k before after : ℕ) (xs : List ℕ)
    → xs ≡ placement_targets_at P k → before ≡ sum_by (carried weights P s) (range_with_len 0 k)
    → after ≡ before + cond (list_any (eqb s) (take 1 xs)) (get_or weights k 0) 0
    → after ≡ sum_by (carried weights P s) (range_with_len 0 (k + 1))
carried-step weights P s k before after xs same was is = omega (
  arith,
  was,
  is,
  carried-more weights P s k,
  ap (λ ts. cond (list_any (eqb s) (take 1 ts)) (get_or weights k 0) 0) same,
)
