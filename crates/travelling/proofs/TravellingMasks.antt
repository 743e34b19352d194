-- The masks of where packets stand.
use Rattle.std.proofs.Common.{[], ◌%◌, ◌&&◌, ◌*◌, ◌+◌, ◌-◌, ◌/◌, ◌<◌, ◌==◌, ◌^◌, ◌∙◌, ◌≡◌, ◌≢◌, ◌≤◌, ◌⊎◌, ◌||◌, Bool, IsSomeAnd, List, None, ap, arith, bit_xor, eq-eqb, eqb-true, false, get_or, get_or-set_other, get_or-set_same, inl, inr, is_some, length, max, not, refl, set, shr-shr, subst, sym, true, ℕ}
use Rattle.base.proofs.Exports.{bit_at, bit_at-lt, bit_at-pow_same, bit_at_xor, cases_lt, get_or_past, has-xor_other, has-zero, has_above, has_least, least_below, nat_tests, shr_le}
use Rattle.base.specs.Exports.{has, least_in_number_set}
use Rattle.travelling.specs.SwitchIndex.{traveller_mark_flipped_if, has_traveller_marks, is_traveller_marked}
use Rattle.travelling.specs.Travelling.{TravellingFlight, AreTravellersMarked, TravellingFlights, travelling_stands_at, flight}

-- ---- empty masks

pub none_marked : (i s : ℕ) → is_traveller_marked [] i s ≡ false
none_marked i s = has-zero (i % 64)

-- the same masks mark the same packets
pub marked_on : (before after : TravellingFlights) (masks more : List ℕ) → AreTravellersMarked before masks
    → ((i : ℕ) → flight after i ≡ flight before i)
    → ((j : ℕ) → get_or more j 0 ≡ get_or masks j 0) → AreTravellersMarked after more
marked_on before after masks more marked same same_masks = λ i s below.
    ap (λ m. has m (i % 64)) (same_masks (i / 64 * 64 + s)) ∙ marked i s below
    ∙ ap (travelling_stands_at s) (sym (same i))

-- there is a mask for each slot
pub room_on : (before after : TravellingFlights) (masks more : List ℕ) (n : ℕ)
    → ((i : ℕ) → i < length before → i + 64 ≤ length masks)
    → length after ≤ max (length before) (n + 1) → length masks ≤ length more
    → n + 64 ≤ length more → (i : ℕ) → i < length after → i + 64 ≤ length more
room_on before after masks more n room few grown new i below = by_place (cases_lt i (length before))
  where
    by_place : (i < length before) ⊎ (length before ≤ i) → i + 64 ≤ length more
    by_place (inl low) = let had = room i low in omega (arith, had, grown)
    by_place (inr high) = omega (arith, few, below, high, new)

-- a packet that travels has a slot
pub within_some : (slots : TravellingFlights) (i : ℕ) → is_some (flight slots i) ≡ true → i < length slots
within_some slots i is = by_place (cases_lt i (length slots)) where
  by_place : (i < length slots) ⊎ (length slots ≤ i) → i < length slots
  by_place (inl below) = below
  by_place (inr past) = absurd (
      let no : is_some (flight slots i) ≡ false = ap is_some (get_or_past slots i None past) in
      cc
      )

pub within_and : (P : TravellingFlight → Type 0) (slots : TravellingFlights) (i : ℕ)
    → IsSomeAnd (flight slots i) P → i < length slots
within_and P slots i is = by_place (cases_lt i (length slots)) where
  by_place : (i < length slots) ⊎ (length slots ≤ i) → i < length slots
  by_place (inl below) = below
  by_place (inr past) = absurd (subst (λ o. IsSomeAnd o P) (get_or_past slots i None past) is)

-- ---- one mark turns

odd_more : (a c : ℕ) → a < 2 → c ≡ (a + 1) % 2 → (c == 1) ≡ not (a == 1)
odd_more a c fits e = grind (arith, nat_tests)

has-xor_same : (mask k : ℕ) → has (bit_xor mask (2 ^ k)) k ≡ not (has mask k)
unfolding has
has-xor_same mask k = odd_more _ _ (bit_at-lt mask k)
    (bit_at_xor mask (2 ^ k) k ∙ ap (λ b. (bit_at mask k + b) % 2) (bit_at-pow_same k))

parts_same : (i n : ℕ) → i / 64 ≡ n / 64 → i % 64 ≡ n % 64 → i ≡ n
parts_same i n high low = omega (arith, high, low)

place_apart : (a b s t : ℕ) → s < 64 → t < 64 → a * 64 + s ≡ b * 64 + t → (a ≡ b) × (s ≡ t)
place_apart a b s t s_below t_below e = (omega (arith, e), omega (arith, e))

cases_eq : (a b : ℕ) → (a ≡ b) ⊎ (a ≢ b)
cases_eq a b = by_test (a == b) refl where
  by_test : (c : Bool) → (a == b) ≡ c → (a ≡ b) ⊎ (a ≢ b)
  by_test true e = inl (eqb-true a b e)
  by_test false e = inr (λ same. absurd (let yes : (a == b) ≡ true = eq-eqb a b same in cc))

module _ (masks : List ℕ) (n t : ℕ) (t_below : t < 64)
    (there : n / 64 * 64 + t < length masks) where
  abbrev p : ℕ
  p = n / 64 * 64 + t

  abbrev turned : List ℕ
  turned = set masks p (bit_xor (get_or masks p 0) (2 ^ (n % 64)))

  abbrev Turns : ℕ → ℕ → Bool → Type 0
  Turns i s test = is_traveller_marked turned i s ≡ traveller_mark_flipped_if test (is_traveller_marked masks i s)

  same_mask : (i s : ℕ) → i / 64 * 64 + s ≡ p → get_or turned (i / 64 * 64 + s) 0
      ≡ bit_xor (get_or masks (i / 64 * 64 + s) 0) (2 ^ (n % 64))
  same_mask i s e = subst (λ q. get_or turned q 0 ≡ bit_xor (get_or masks q 0) (2 ^ (n % 64)))
      (sym e) (get_or-set_same masks p (bit_xor (get_or masks p 0) (2 ^ (n % 64))) 0 there)

  turns_one : (i s : ℕ) → i ≡ n → t ≡ s → Turns i s true
  turns_one i s same at =
      let e : i / 64 * 64 + s ≡ p = ap (λ k. k / 64 * 64 + s) same ∙ ap (λ u. n / 64 * 64 + u) (sym at) in
      ap (λ m. has m (i % 64)) (same_mask i s e)
      ∙ ap (λ k. has (bit_xor (get_or masks (i / 64 * 64 + s) 0) (2 ^ k)) (i % 64))
      (ap (λ k. k % 64) (sym same))
      ∙ has-xor_same (get_or masks (i / 64 * 64 + s) 0) (i % 64)

  turns_none : (i s : ℕ) → s < 64 → (i ≡ n → t ≢ s) → Turns i s false
  turns_none i s below other = by_place (cases_eq (i / 64 * 64 + s) p) where
    by_place : (i / 64 * 64 + s ≡ p) ⊎ (i / 64 * 64 + s ≢ p) → Turns i s false
    by_place (inl e) = let both = place_apart (i / 64) (n / 64) s t below t_below e in
        ap (λ m. has m (i % 64)) (same_mask i s e)
        ∙ has-xor_other (get_or masks (i / 64 * 64 + s) 0) (n % 64) (i % 64)
        (λ low. other (parts_same i n both.0 low) (sym both.1))
    by_place (inr apart) = ap (λ m. has m (i % 64)) (get_or-set_other masks p
        (i / 64 * 64 + s) (bit_xor (get_or masks p 0) (2 ^ (n % 64))) 0 apart)

  pub turns : (i s : ℕ) → s < 64 → Turns i s (i == n && t == s)
  turns i s below = by_tests (i == n) (t == s) refl refl where
    by_tests : (a b : Bool) → (i == n) ≡ a → (t == s) ≡ b → Turns i s (a && b)
    by_tests true true same at = turns_one i s (eqb-true i n same) (eqb-true t s at)
    by_tests true false same at =
        turns_none i s below (λ _ e. absurd (let yes : (t == s) ≡ true = eq-eqb t s e in cc))
    by_tests false b same at = turns_none i s below
        (λ e. absurd (let yes : (i == n) ≡ true = eq-eqb i n e in cc))

  abbrev old : ℕ
  old = get_or masks p 0

  abbrev new : ℕ
  new = bit_xor old (2 ^ (n % 64))

  abbrev Changes : ℕ → ℕ → Bool → Type 0
  Changes block s test = has_traveller_marks turned block s
      ≡ traveller_mark_flipped_if (((old == 0) || (new == 0)) && test) (has_traveller_marks masks block s)

  -- one of them has the mark
  not_both : (old == 0) ≡ true → (new == 0) ≡ true → ⊥
  not_both was is =
      let none : has old (n % 64) ≡ false = ap (λ m. has m (n % 64)) (eqb-true old 0 was)
      ∙ has-zero (n % 64) in
      let still : has new (n % 64) ≡ false = ap (λ m. has m (n % 64)) (eqb-true new 0 is)
      ∙ has-zero (n % 64) in
      let flips = has-xor_same old (n % 64) in cc

  changed : (was is : Bool) → (was ≡ true → is ≡ true → ⊥)
      → not is ≡ traveller_mark_flipped_if ((was || is) && true) (not was)
  changed true true clash = absurd (clash refl refl)
  changed true false clash = refl
  changed false true clash = refl
  changed false false clash = refl

  unchanged : (b had : Bool) → had ≡ traveller_mark_flipped_if (b && false) had
  unchanged true had = refl
  unchanged false had = refl

  changes_one : (block s : ℕ) → block * 64 + s ≡ p → Changes block s true
  changes_one block s e = rw e (ap (λ mask. not (mask == 0)) (get_or-set_same masks p new 0 there)
      ∙ changed (old == 0) (new == 0) not_both)

  changes_none : (block s : ℕ) → block * 64 + s ≢ p → Changes block s false
  changes_none block s apart =
      ap (λ mask. not (mask == 0)) (get_or-set_other masks p (block * 64 + s) new 0 apart)
      ∙ unchanged ((old == 0) || (new == 0)) (has_traveller_marks masks block s)

  pub changes : (block s : ℕ) → s < 64 → Changes block s (block == n / 64 && t == s)
  changes block s below = by_tests (block == n / 64) (t == s) refl refl where
    at : block ≡ n / 64 → t ≡ s → block * 64 + s ≡ p
    at same here = ap (λ b. b * 64 + s) same ∙ ap (λ u. n / 64 * 64 + u) (sym here)

    by_tests : (a b : Bool) → (block == n / 64) ≡ a → (t == s) ≡ b → Changes block s (a && b)
    by_tests true true same here =
        changes_one block s (at (eqb-true block (n / 64) same) (eqb-true t s here))
    by_tests true false same here = changes_none block s (λ e. absurd (
        let is = sym (place_apart block (n / 64) s t below t_below e).1 in
        let clash : (t == s) ≡ true = eq-eqb t s is in cc))
    by_tests false b same here = changes_none block s (λ e. absurd (
        let is = (place_apart block (n / 64) s t below t_below e).0 in
        let clash : (block == n / 64) ≡ true = eq-eqb block (n / 64) is in cc))

-- ---- the next mark

has-shr : (mask k j : ℕ) → has (mask / 2 ^ k) j ≡ has mask (k + j)
unfolding has
has-shr mask k j = ap (λ x. x % 2 == 1) (shr-shr mask k j)

module _ (masks : List ℕ) (s next : ℕ) where
  abbrev rest : ℕ
  rest = get_or masks (next / 64 * 64 + s) 0 / 2 ^ (next % 64)

  pub rest_below : get_or masks (next / 64 * 64 + s) 0 < 2 ^ 64 → rest < 2 ^ 64
  rest_below fits = let less = shr_le (get_or masks (next / 64 * 64 + s) 0) (next % 64) in
      omega (arith, fits, less)

  -- a packet of the same block
  in_block : (i : ℕ) → next ≤ i → i < (next / 64 + 1) * 64
      → is_traveller_marked masks i s ≡ has rest (i - next)
  in_block i above below = let high : i / 64 ≡ next / 64 = omega (arith, above, below) in
      ap (λ q. has (get_or masks (q * 64 + s) 0) (i % 64)) high
      ∙ ap (has (get_or masks (next / 64 * 64 + s) 0)) (omega (arith, above, below, high))
      ∙ sym (has-shr (get_or masks (next / 64 * 64 + s) 0) (next % 64) (i - next))

  pub none_in_mask : rest ≡ 0 → (i : ℕ) → next ≤ i → i < (next / 64 + 1) * 64
      → is_traveller_marked masks i s ≡ false
  none_in_mask empty i above below = cc (in_block i above below, empty, has-zero (i - next))

  pub none_past : length masks ≤ next / 64 * 64 + s → (i : ℕ) → next ≤ i
      → is_traveller_marked masks i s ≡ false
  none_past past i above =
      cc (get_or_past masks (i / 64 * 64 + s) 0 (omega (arith, past, above)), has-zero (i % 64))

  module _ (some : 0 < rest) (fits : get_or masks (next / 64 * 64 + s) 0 < 2 ^ 64)
      (rest_fits : rest < 2 ^ 64) where
    within : next % 64 + least_in_number_set rest < 64
    within = by_place (cases_lt (next % 64 + least_in_number_set rest) 64) where
      by_place : (next % 64 + least_in_number_set rest < 64) ⊎ (64 ≤ next % 64 + least_in_number_set rest)
          → next % 64 + least_in_number_set rest < 64
      by_place (inl below) = below
      by_place (inr past) = absurd (
          let yes = sym (has-shr (get_or masks (next / 64 * 64 + s) 0) (next % 64) (least_in_number_set rest))
          ∙ has_least rest some rest_fits in
          let no = has_above (get_or masks (next / 64 * 64 + s) 0) (next % 64 + least_in_number_set rest) fits past in
          cc)

    pub least_marked : is_traveller_marked masks (next + least_in_number_set rest) s ≡ true
    least_marked = in_block (next + least_in_number_set rest) (omega arith) (omega (arith, within))
        ∙ ap (has rest) (let e : next + least_in_number_set rest - next ≡ least_in_number_set rest = omega arith in e)
        ∙ has_least rest some rest_fits

    pub none_before : (i : ℕ) → next ≤ i → i < next + least_in_number_set rest → is_traveller_marked masks i s ≡ false
    none_before i above below = in_block i above (omega (arith, within, below))
        ∙ least_below rest some rest_fits (i - next) (omega (arith, above, below))
