-- The loop over the neighbours that a switch names.
use Rattle.std.proofs.Common.{◌%◌, ◌&&◌, ◌+◌, ◌-◌, ◌<◌, ◌==◌, ◌^◌, ◌||◌, ◌∙◌, ◌≡◌, Bool, List, ap, arith, bit_and, bit_or, bit_xor, eq-eqb, false, get_or, inl, inr, not, pow_pos, sym, true, w64, ℕ, rules}
use Rattle.base.proofs.Exports.{and-true, and_le_l, and_le_r, and_parts, and_pow, bit_at, bit_at-lt, bit_at-pow_same, bit_at_not, bit_at_ones, bit_at_xor, bit_not, cases_eq, has-and, has-or, has-xor_other, has-zero, has_least, has_mask, has_only_other, has_only_same, nat_tests, only_if_lt, or_lt, pow_below, same_masks, xor_add_and, xor_lt}
use Rattle.base.specs.Exports.{has, least_in_number_set, only_if}
use Rattle.failover.specs.Exports.{is_known_route_link, route_links_at}
use Rattle.failover.proofs.RouteLinkBalls.{apart_tests}

-- the row has the links to the switches within a set that are not left
pub record IsRowSoFar (neighbours down : List ℕ) (one within row rest : ℕ) : Type 0 where
  pub row_fits : row < 2 ^ 64
  pub rest_fits : rest < 2 ^ 64
  pub named : (k : ℕ) → has rest k ≡ true → has (get_or neighbours one 0) k ≡ true
  pub found : (k : ℕ) → k < 64 → (has row k || (has rest k && is_known_route_link neighbours down one k)) ≡
      (is_known_route_link neighbours down one k && has within k)

named_and : (a b c d : Bool) → (b && (a && b && c && d)) ≡ (a && b && c && d)
named_and a b c d = search rules

-- a link is to a switch that is named
named : (neighbours down : List ℕ) (one k : ℕ) →
    (has (get_or neighbours one 0) k && is_known_route_link neighbours down one k) ≡
    is_known_route_link neighbours down one k
unfolding is_known_route_link
named neighbours down one k = named_and (not (one == k)) (has (get_or neighbours one 0) k)
    (has (get_or neighbours k 0) one) _

named_within : (name within link : Bool) → (name && link) ≡ link →
    ((name && within) && link) ≡ (link && within)
named_within name within link h = search rules

pub row_begins : (neighbours down : List ℕ) (one within : ℕ) → within < 2 ^ 64 →
    IsRowSoFar neighbours down one within 0 (bit_and (get_or neighbours one 0) within)
row_begins neighbours down one within fits = record {
  row_fits = pow_pos 64;
  rest_fits = omega (arith, and_le_r (get_or neighbours one 0) within);
  named = λ k h. (and_parts _ _ (sym (has-and (get_or neighbours one 0) within k) ∙ h)).0;
  found = λ k below. rw (has-zero k, has-and) (named_within (has (get_or neighbours one 0) k)
      (has within k) _ (named neighbours down one k));
}

pub row_ends : (neighbours down : List ℕ) (one within row rest : ℕ) → within < 2 ^ 64 →
    IsRowSoFar neighbours down one within row rest →
    rest ≡ 0 → row ≡ bit_and (route_links_at neighbours down one) within
row_ends neighbours down one within row rest fits so_far none = same_masks row _ so_far.row_fits
    (omega (arith, and_le_r))
    (λ k below. at_end (has row k) (has rest k) _ _ (ap (λ n. has n k) none ∙ has-zero k)
    (so_far.found k below) ∙ sym (has-and (route_links_at neighbours down one) within k
    ∙ ap (λ b. b && has within k) (has_mask (is_known_route_link neighbours down one) k below)))
  where
    at_end : (row rest link wanted : Bool) → rest ≡ false → (row || (rest && link)) ≡ wanted →
        row ≡ wanted
    at_end row rest link wanted none h = search rules

-- ---- a switch less

sum_bit : (a b : ℕ) → a < 2 → b ≡ 1 → (a == 1) ≡ true → ((a + b) % 2 == 1) ≡ false
sum_bit a b fits e h = grind (arith, nat_tests)

pub has_less-same : (rest k : ℕ) → has rest k ≡ true → has (bit_xor rest (2 ^ k)) k ≡ false
unfolding has
has_less-same rest k h = rw (bit_at_xor rest (2 ^ k) k)
    (sum_bit (bit_at rest k) (bit_at (2 ^ k) k) (bit_at-lt rest k) (bit_at-pow_same k) h)

one_bit : (a : ℕ) → (a == 1) ≡ true → a ≡ 1
one_bit a h = grind (arith, nat_tests)

pub less : (rest k : ℕ) → has rest k ≡ true → bit_xor rest (2 ^ k) < rest
unfolding has
less rest k h = search (rules, and_pow, one_bit, xor_add_and)

-- ---- a turn

turn_same : (row link wanted : Bool) → (row || (true && link)) ≡ wanted →
    ((row || link) || (false && link)) ≡ wanted
turn_same row link wanted h = search rules

turn_other : (row rest link wanted : Bool) → (row || (rest && link)) ≡ wanted →
    ((row || false) || (rest && link)) ≡ wanted
turn_other true rest link wanted h = h
turn_other false rest link wanted h = h

pub row_goes_on : (neighbours down : List ℕ) (one within row rest other gain gone : ℕ) →
    IsRowSoFar neighbours down one within row rest → has rest other ≡ true → other < 64 →
    gain ≡ only_if (is_known_route_link neighbours down one other) other → gone ≡ 2 ^ other →
    IsRowSoFar neighbours down one within (bit_or row gain) (bit_xor rest gone)
row_goes_on neighbours down one within row rest other gain gone so_far left fits gains goes =
    rw (gains, goes) (record {
      row_fits = or_lt 64 _ _ so_far.row_fits
          (only_if_lt (is_known_route_link neighbours down one other) other 64 fits);
      rest_fits = xor_lt 64 _ _ so_far.rest_fits (pow_below other 64 fits);
      named = λ k h. elim (cases_eq k other) [
        | inl same ↦ apart_tests _ h
            (ap (has (bit_xor rest (2 ^ other))) same ∙ has_less-same rest other left)
        | inr apart ↦ so_far.named k (sym (has-xor_other rest other k apart) ∙ h)
      ];
      found = λ k below. elim (cases_eq k other) [
        | inl same ↦ rw (has-or, same, has_only_same, has_less-same rest other left)
            (turn_same (has row other) _ _ (sym
            (ap (λ b. has row other || (b && is_known_route_link neighbours down one other)) left)
            ∙ so_far.found other fits))
        | inr apart ↦ rw (has-or, has_only_other, has-xor_other)
            (turn_other (has row k) (has rest k) _ _ (so_far.found k below))
      ];
    })

-- ---- sets of switches

kept_bit : (a b c : ℕ) → a < 2 → b < 2 → c ≡ (a + b) % 2 → (b == 1) ≡ true → (c == 1) ≡ false →
    (a == 1) ≡ true
kept_bit a b c a_fits b_fits e there out = grind (arith, nat_tests)

first_bit : (a b c : ℕ) → a < 2 → b < 2 → c ≡ (a + b) % 2 → (b == 1) ≡ false → (c == 1) ≡ true →
    (a == 1) ≡ true
first_bit a b c a_fits b_fits e absent there = grind (arith, nat_tests)

-- what is in the second set, and not in just one of the two, is in the first
pub has_both : (a b k : ℕ) → has b k ≡ true → has (bit_xor a b) k ≡ false → has a k ≡ true
unfolding has
has_both a b k there out = kept_bit (bit_at a k) (bit_at b k) _ (bit_at-lt a k) (bit_at-lt b k)
    (bit_at_xor a b k) there out

-- what is in just one of the two, and not in the second, is in the first
pub has_first : (a b k : ℕ) → has b k ≡ false → has (bit_xor a b) k ≡ true → has a k ≡ true
unfolding has
has_first a b k absent there = first_bit (bit_at a k) (bit_at b k) _ (bit_at-lt a k) (bit_at-lt b k)
    (bit_at_xor a b k) absent there

turned_bit : (a b : ℕ) → a < 2 → b ≡ 1 - a → (b == 1) ≡ not (a == 1)
turned_bit a b fits e = grind (arith, nat_tests)

has-not : (a k : ℕ) → a < 2 ^ 64 → k < 64 → has (bit_not w64 a) k ≡ not (has a k)
unfolding has
has-not a k fits below = turned_bit (bit_at a k) _ (bit_at-lt a k) (bit_at_not w64 a k fits below)

or_more : (a b : Bool) → (a || (b && not a)) ≡ (a || b)
or_more a b = search rules

-- what is there already may be left out of what is added
pub or_others : (a b gain : ℕ) → a < 2 ^ 64 → b < 2 ^ 64 →
    gain ≡ bit_and b (bit_not w64 a) → bit_or a gain ≡ bit_or a b
or_others a b gain a_fits b_fits e =
    let gain_fits : gain < 2 ^ 64 = omega (arith, and_le_l b (bit_not w64 a)) in
    same_masks _ _ (or_lt 64 _ _ a_fits gain_fits) (or_lt 64 _ _ a_fits b_fits)
    (λ k below. has-or a gain k ∙ ap (λ t. has a k || t) (ap (λ m. has m k) e
    ∙ has-and b (bit_not w64 a) k ∙ ap (λ t. has b k && t) (has-not a k a_fits below))
    ∙ or_more (has a k) (has b k) ∙ sym (has-or a b k))

has_all : (k : ℕ) → k < 64 → has (2 ^ 64 - 1) k ≡ true
unfolding has
has_all k below = eq-eqb _ 1 (bit_at_ones 64 k below)

-- among all switches
pub and_all : (a : ℕ) → a < 2 ^ 64 → bit_and a (2 ^ 64 - 1) ≡ a
and_all a fits = same_masks _ _ (omega (arith, and_le_r)) fits (λ k below. has-and a (2 ^ 64 - 1) k
    ∙ ap (λ t. has a k && t) (has_all k below) ∙ and-true (has a k))

-- the first that is left
pub first_left : (rest : ℕ) → rest < 2 ^ 64 → (rest ≡ 0 → ⊥) → has rest (least_in_number_set rest) ≡ true
first_left rest fits some = has_least rest (omega arith) fits

-- without it fewer are left
pub fewer_left : (rest gone : ℕ) → rest < 2 ^ 64 → (rest ≡ 0 → ⊥) → gone ≡ 2 ^ least_in_number_set rest →
    bit_xor rest gone < rest
fewer_left rest gone fits some goes =
    rw goes (less rest (least_in_number_set rest) (first_left rest fits some))
