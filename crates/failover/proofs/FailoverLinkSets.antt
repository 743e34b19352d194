-- Sets of links.
use Rattle.std.proofs.Common.{◌&&◌, ◌<◌, ◌==◌, ◌^◌, ◌||◌, ◌∙◌, ◌≡◌, ◌≢◌, ◌≤◌, ◌⊎◌, Bool, IsTrue, List, ap, arith, bit_or, eq-eqb, eqb-true, false, get_or, get_or-set_other, get_or-set_same, inl, inr, length, length-set, max, min, refl, set, sym, true, ℕ, rules}
use Rattle.base.proofs.Exports.{and_parts, cases_eq, cases_lt, get_or-replicate, get_or_default, get_or_past, has-or, has-pow_other, has-pow_same, has-zero, length-replicate, same_lists, same_sets}
use Rattle.base.specs.Exports.{has}
use Rattle.failover.specs.Exports.{IsFailoverDownLinkSet, link_set_has, is_failover_link_of, no_failover_links, with_failover_link}
use Rattle.failover.proofs.RouteLinkBalls.{and_both, or_left, apart_tests, false_of}

no_row : (k : ℕ) → get_or no_failover_links k 0 ≡ 0
no_row k = elim (cases_lt k 64)
    [ inl below ↦ get_or-replicate 64 k 0 0 below | inr past ↦ get_or_past no_failover_links k 0 past ]

no_link : {P : Type 0} (k x : ℕ) → IsTrue (has (get_or no_failover_links k 0) x) → P
no_link k x h = apart_tests (has 0 x) (ap (λ row. has row x) (sym (no_row k)) ∙ h) (has-zero x)

pub none_is_link_set : IsFailoverDownLinkSet no_failover_links
none_is_link_set = record {
  masks = length-replicate {A = ℕ} 64 0;
  above = λ k x h. no_link k x h;
  switches = λ k x h. no_link k x h;
}

-- the row of the lower number gains the higher one
gained : (links : List ℕ) (low high k x : ℕ) →
    IsTrue (has (get_or (set links low (bit_or (get_or links low 0) (2 ^ high))) k 0) x) →
    low < length links → IsTrue (has (get_or links k 0) x) ⊎ ((k ≡ low) × (x ≡ high))
gained links low high k x h there =
    search (rules, cases_eq, get_or-set_same, has-or, has-pow_other, get_or-set_other)

pub with_link_is_link_set : (links : List ℕ) (one other : ℕ) → IsFailoverDownLinkSet links → one ≢ other →
    one < 64 → other < 64 → IsFailoverDownLinkSet (with_failover_link links one other)
unfolding with_failover_link
with_link_is_link_set links one other set differ one_fits other_fits =
    search (rules, length-set, gained)

pub link_set_has-here : (links : List ℕ) (one other low high : ℕ) → low ≡ min one other →
    high ≡ max one other → has (get_or links low 0) high ≡ link_set_has links one other
unfolding link_set_has
link_set_has-here links one other low high p q = rw (p, q) refl

not_above : (links : List ℕ) (k x : ℕ) → IsFailoverDownLinkSet links → x ≤ k → has (get_or links k 0) x ≡ false
not_above links k x set past = false_of _ (λ h. absurd (omega (arith, set.above k x h)))

-- the row of the higher number doesn't have the lower
link_set_has-either : (links : List ℕ) (one other : ℕ) → IsFailoverDownLinkSet links →
    (has (get_or links one 0) other || has (get_or links other 0) one) ≡ link_set_has links one other
link_set_has-either links one other set = search (rules, link_set_has-here)

pub link_set_has-first : (links : List ℕ) (one other : ℕ) → IsFailoverDownLinkSet links →
    has (get_or links one 0) other ≡ true → true ≡ link_set_has links one other
link_set_has-first links one other set there = cc (there, link_set_has-either links one other set)

pub link_set_has-second : (links : List ℕ) (one other : ℕ) → IsFailoverDownLinkSet links →
    has (get_or links one 0) other ≡ false → has (get_or links other 0) one ≡
    link_set_has links one other
link_set_has-second links one other set absent = cc (absent, link_set_has-either links one other set)

pub link_set_has-above : (links : List ℕ) (one other : ℕ) → IsFailoverDownLinkSet links →
    64 ≤ max one other → false ≡ link_set_has links one other
unfolding link_set_has
link_set_has-above links one other set past = sym (false_of _
    (λ h. absurd (omega (arith, set.switches (min one other) (max one other) h))))

pub with_link-rows : (links : List ℕ) (one other low high more : ℕ) → low ≡ min one other →
    high ≡ max one other → more ≡ 2 ^ high →
    set links low (bit_or (get_or links low 0) more) ≡ with_failover_link links one other
unfolding with_failover_link
with_link-rows links one other low high more p q e = rw (e, p, q) refl

-- ---- the links of a set

pub link_set_has-none : (x y : ℕ) → link_set_has no_failover_links x y ≡ false
unfolding link_set_has
link_set_has-none x y = ap (λ row. has row (max x y)) (no_row (min x y)) ∙ has-zero (max x y)

pub link_set_has-turned : (links : List ℕ) (x y : ℕ) → link_set_has links x y ≡ link_set_has links y x
unfolding link_set_has
link_set_has-turned links x y = search rules

same_pair : (one other x y : ℕ) → min x y ≡ min one other → max x y ≡ max one other →
    is_failover_link_of one other x y ≡ true
same_pair one other x y low high = search (rules, cases_eq, or_left, and_both, eq-eqb)

both_numbers : (a b c d : ℕ) → ((a == b) && (c == d)) ≡ true → (a ≡ b) × (c ≡ d)
both_numbers a b c d h = (eqb-true a b (and_parts _ _ h).0, eqb-true c d (and_parts _ _ h).1)

other_pair : (one other x y : ℕ) → (min x y ≡ min one other → max x y ≡ max one other → ⊥) →
    is_failover_link_of one other x y ≡ false
other_pair one other x y apart = search (rules, false_of, both_numbers)

row_gains : (row high z : ℕ) (pair : Bool) → (z ≡ high → pair ≡ true) →
    ((z ≡ high → ⊥) → pair ≡ false) → has (bit_or row (2 ^ high)) z ≡ (has row z || pair)
row_gains row high z pair here elsewhere =
    search (rules, cases_eq, has-pow_same, has-or, has-pow_other)

pub link_set_has-with_link : (links : List ℕ) (one other x y : ℕ) → IsFailoverDownLinkSet links → one < 64 →
    other < 64 → link_set_has (with_failover_link links one other) x y ≡
    (link_set_has links x y || is_failover_link_of one other x y)
unfolding link_set_has with_failover_link
link_set_has-with_link links one other x y set one_fits other_fits =
    search (rules, cases_eq, get_or-set_same, row_gains, other_pair, get_or-set_other)

row_at : (links : List ℕ) (k x : ℕ) → k < x → has (get_or links k 0) x ≡ link_set_has links k x
unfolding link_set_has
row_at links k x less = search rules

same_rows : (a b : List ℕ) → IsFailoverDownLinkSet a → IsFailoverDownLinkSet b →
    ((x y : ℕ) → link_set_has a x y ≡ link_set_has b x y) → (k : ℕ) → get_or a k 0 ≡ get_or b k 0
same_rows a b one other same k = same_sets _ _ (λ x. elim (cases_lt k x) [
  | inl less ↦ row_at a k x less ∙ same k x ∙ sym (row_at b k x less)
  | inr past ↦ not_above a k x one past ∙ sym (not_above b k x other past)
])

pub same_link_sets : (a b : List ℕ) → IsFailoverDownLinkSet a → IsFailoverDownLinkSet b →
    ((x y : ℕ) → link_set_has a x y ≡ link_set_has b x y) → a ≡ b
same_link_sets a b one other same = same_lists a b (one.masks ∙ sym other.masks)
    (λ k d below. get_or_default a k d 0 below ∙ same_rows a b one other same k
    ∙ sym (get_or_default b k d 0 (omega (arith, one.masks, other.masks))))
