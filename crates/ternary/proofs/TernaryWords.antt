-- What is true of all words.
use Rattle.std.proofs.Common.{◌%◌, ◌&&◌, ◌*◌, ◌-◌, ◌/◌, ◌<◌, ◌==◌, ◌^◌, ◌||◌, ◌↔◌, ◌∙◌, ◌≡◌, ◌≢◌, ◌⊎◌, Bool, Decides, IsFalse, IsNone, IsTrue, None, Option, Some, ap, arith, cond, eqb-true, false, inl, inr, is_some, mod-eq_of_lt, not, option_and_then, refl, subst, sym, true, ℕ, rules}
use Rattle.std.specs.Int.{bit_at, from_bool}
use Rattle.std.specs.Int.Bits.{bit_and, bit_or, and_self, or_comm, or_lt}
use Rattle.std.proofs.lemmas.Bool.{eq-eqb, cases_Bool, and_parts, and_from, cond-true, cond-false, both_ways, false_from_ne_true, ne_eqb}
use Rattle.std.proofs.lemmas.Bool.Decides.{same_from_decides, Decides-like, Decides-and, Decides-or, Decides-eqb}
use Rattle.std.proofs.lemmas.Nat.{and_assoc, and_le_r, and_mask, pow_below}
use Rattle.std.proofs.lemmas.Nat.Bits.{bit_at-zero, bit_at_ones, shr_and_one, same_from_bits_below}
use Rattle.std.proofs.lemmas.Option.{cond_some}
use Rattle.ternary.specs.Exports.{WordsAgreeOnFixedBits, AgreesOnWordMask, AreDisjointWords, WordIncludes, IsWordFixedIn, IsTernaryMeet, IsWord, WordValue, word_admits, any_word, word_covers_of, exact_word, word_fix_of, word_fixed_value, ternary_with_bit_freed, holds, is_word_bit_fixed, word_meet_of, meeting_word, word_meets, ternary_with_bit, ternary_without_bit, word_eq}
use Rattle.ternary.proofs.TernaryBits.{masked, unmasked, part, of_part, both_set, left_set, right_set, or_assoc, absorbed, same_set, set_below, not_set, by_place, digit_cases, with_bit-same, with_bit-other, with_bit-lt, ternary_without_bit-same, ternary_without_bit-other, ternary_without_bit-le, ternary_without_bit-unset, shifted, shifted_one, masked_out, or_pow-same, or_pow-other, masked_sum-left, masked_sum-right, or_left, or_right, or_from}

-- words of the same value and mask are equal
pub same_word : (a b : WordValue) → a.value ≡ b.value → a.mask ≡ b.mask → a ≡ b
same_word a b p q = λ i. record { value = p i; mask = q i }

pub word_eq_decides : (a b : WordValue) → Decides (word_eq a b) (a ≡ b)
word_eq_decides a b = search (rules, Decides-like, same_word, Decides-and)

-- ---- each test, bit by bit

pub holds_decides : (w : WordValue) (h : ℕ) → Decides (holds w h) (AgreesOnWordMask w h)
unfolding holds
holds_decides w h = (
  λ t. unmasked h w.value w.mask (eqb-true _ _ t),
  λ bits. eq-eqb _ _ (masked h w.value w.mask bits),
)

pub meets_decides : (a b : WordValue) → Decides (word_meets a b) (WordsAgreeOnFixedBits a b)
unfolding word_meets
meets_decides a b = (
  λ t k p q. unmasked a.value b.value (bit_and a.mask b.mask) (eqb-true _ _ t) k
      (both_set _ _ k p q),
  λ bits. eq-eqb _ _ (masked a.value b.value (bit_and a.mask b.mask)
      (λ k s. bits k (left_set _ _ k s) (right_set _ _ k s))),
)

pub covers_decides : (a b : WordValue) → Decides (word_covers_of a b) (IsWordFixedIn a b)
unfolding word_covers_of
covers_decides a b = (
  λ t k p. let h = and_parts _ _ t in (
    of_part a.mask b.mask (eqb-true _ _ h.0) k p,
    unmasked b.value a.value a.mask (eqb-true _ _ h.1) k p,
  ),
  λ bits. and_from _ _ (eq-eqb _ _ (part _ _ (λ k p. (bits k p).0)))
      (eq-eqb _ _ (masked b.value a.value a.mask (λ k p. (bits k p).1))),
)

-- ---- headers

pub holds_value : (w : WordValue) → IsTrue (holds w w.value)
holds_value w = (holds_decides w w.value).1 (λ k set. refl)

pub any_holds : (h : ℕ) → IsTrue (holds any_word h)
any_holds h = (holds_decides any_word h).1 (λ k set. absurd (not_set 0 k (bit_at-zero k) set))

pub exact_holds : (h x : ℕ) → h < 2 ^ 104 → x < 2 ^ 104 → Decides (holds (exact_word h) x) (x ≡ h)
exact_holds h x h_fits x_fits = Decides-like _
    (λ bits. same_from_bits_below 104 x h x_fits h_fits (λ k low. bits k (bit_at_ones 104 k low)))
    (λ e k set. ap (λ n. bit_at n k) e) (holds_decides (exact_word h) x)

pub exact_is_word : (h : ℕ) → h < 2 ^ 104 → IsWord (exact_word h)
exact_is_word h fits = record { within = and_mask h 104 ∙ mod-eq_of_lt fits; bounded = omega arith }

-- ---- the order

pub covers_held : (a b : WordValue) (h : ℕ) → IsTrue (word_covers_of a b) → IsTrue (holds b h)
    → IsTrue (holds a h)
covers_held a b h c held = search (rules, holds_decides, covers_decides)

pub covers_reflexive : (a : WordValue) → IsTrue (word_covers_of a a)
covers_reflexive a = (covers_decides a a).1 (λ k p. (p, refl))

pub covers_transitive : (a b c : WordValue) → IsTrue (word_covers_of a b) → IsTrue (word_covers_of b c)
    → IsTrue (word_covers_of a c)
covers_transitive a b c ab bc = search (rules, covers_decides)

pub covers_antisymmetric : (a b : WordValue) → IsWord a → IsWord b → IsTrue (word_covers_of a b)
    → IsTrue (word_covers_of b a) → a ≡ b
covers_antisymmetric a b a_word b_word ab ba =
    let f = (covers_decides a b).0 ab in
    let g = (covers_decides b a).0 ba in
    let mask : a.mask ≡ b.mask = same_set _ _ (λ k p. (f k p).0) (λ k p. (g k p).0) in
    let value = masked a.value b.value a.mask (λ k p. sym (f k p).1) ∙ ap (bit_and b.value) mask in
    same_word a b (sym a_word.within ∙ value ∙ b_word.within) mask

pub any_covers : (w : WordValue) → IsTrue (word_covers_of any_word w)
any_covers w = (covers_decides any_word w).1 (λ k set. absurd (not_set 0 k (bit_at-zero k) set))

pub covers_exact : (w : WordValue) (h : ℕ) → IsWord w → h < 2 ^ 104 → word_covers_of w (exact_word h)
    ≡ holds w h
covers_exact w h w_word fits = same_from_decides _ _ (Decides-like _ (λ fixed k p. (fixed k p).1)
    (λ bits k p. (bit_at_ones 104 k (set_below 104 w.mask k w_word.bounded p), bits k p))
    (covers_decides w (exact_word h))) (holds_decides w h)

-- the value of a word has 104 bits
pub value_below : (w : WordValue) → IsWord w → w.value < 2 ^ 104
value_below w w_word = omega (arith, and_le_r w.value w.mask, w_word.within, w_word.bounded)

zero_not_one : (d : ℕ) → d ≡ from_bool false → d ≡ from_bool true → ⊥
zero_not_one d p q = omega (arith, p, q)

-- A bit that a fixes and b leaves free would have two values in a, since b holds its value with
-- that bit set to either.
pub includes_covers : (a b : WordValue) → IsWord a → IsWord b → WordIncludes a b
    → IsTrue (word_covers_of a b)
includes_covers a b a_word b_word inside = (covers_decides a b).1
    (λ k p. (fixed k p, agrees b.value (value_below b b_word) (λ j set. refl) k p))
  where
    agrees : (h : ℕ) → h < 2 ^ 104 → AgreesOnWordMask b h → AgreesOnWordMask a h
    agrees h fits bits = (holds_decides a h).0 (inside h fits ((holds_decides b h).1 bits))

    either : (k : ℕ) → bit_at a.mask k ≡ 1 → bit_at b.mask k ≡ 0 → (one : Bool)
        → bit_at a.value k ≡ from_bool one
    either k p unset one = sym (agrees (ternary_with_bit b.value k one) (with_bit-lt 104 b.value k one
        (value_below b b_word) (set_below 104 a.mask k a_word.bounded p)) (by_place k
        (λ j. bit_at b.mask j ≡ 1 → bit_at (ternary_with_bit b.value k one) j ≡ bit_at b.value j) (λ set.
        absurd (not_set b.mask k unset set)) (λ j apart set. with_bit-other b.value k one j apart))
        k p) ∙ with_bit-same b.value k one

    fixed : (k : ℕ) → bit_at a.mask k ≡ 1 → bit_at b.mask k ≡ 1
    fixed k p = elim (digit_cases b.mask k) [
      | inr set ↦ set
      | inl unset ↦ absurd (zero_not_one _ (either k p unset false) (either k p unset true))
    ]

-- words of the same headers are equal
pub same_headers : (a b : WordValue) → IsWord a → IsWord b
    → ((h : ℕ) → h < 2 ^ 104 → holds a h ≡ holds b h) → a ≡ b
same_headers a b a_word b_word same = search (rules, covers_antisymmetric, includes_covers)

-- ---- what is in both

module _ (a b : WordValue) (agree : WordsAgreeOnFixedBits a b) where
  joined_left : IsWordFixedIn a (meeting_word a b)
  joined_left k p = search (rules, or_left, masked_sum-left)

  joined_right : IsWordFixedIn b (meeting_word a b)
  joined_right k q = (
    or_right a.mask b.mask k q,
    masked_sum-right a.value a.mask b.value b.mask k q (λ p. agree k p q),
  )

  -- a fact of each bit of either word is one of each bit of the joined word
  joined_bits : (P : ℕ → ℕ → Type 0) → ((k : ℕ) → bit_at a.mask k ≡ 1 → P k (bit_at a.value k))
      → ((k : ℕ) → bit_at b.mask k ≡ 1 → P k (bit_at b.value k))
      → (k : ℕ) → bit_at (meeting_word a b).mask k ≡ 1 → P k (bit_at (meeting_word a b).value k)
  joined_bits P of_a of_b k s = elim (or_from a.mask b.mask k s) [
    | inl p ↦ subst (P k) (sym (joined_left k p).1) (of_a k p)
    | inr q ↦ rw ((joined_right k q).1) (of_b k q)
  ]

  -- a test of a word's fixed bits is true of the joined word where it is of both
  joined_test : (P : ℕ → ℕ → Type 0) (test : WordValue → Bool) → ((w : WordValue) → Decides (test w)
      ((k : ℕ) → bit_at w.mask k ≡ 1 → P k (bit_at w.value k)))
      → test (meeting_word a b) ≡ (test a && test b)
  joined_test P test decides = same_from_decides _ _ (Decides-like _ (λ bits. (
    λ k p. let l = joined_left k p in subst (P k) l.1 (bits k l.0),
    λ k q. let r = joined_right k q in subst (P k) r.1 (bits k r.0),
  ))
      (λ both. joined_bits P both.0 both.1)
      (decides (meeting_word a b)))
      (Decides-and _ _ (decides a) (decides b))

  joined_holds : (h : ℕ) → holds (meeting_word a b) h ≡ (holds a h && holds b h)
  joined_holds h = joined_test (λ k d. bit_at h k ≡ d) (λ w. holds w h) (λ w. holds_decides w h)

  joined_meets : (c : WordValue) → word_meets (meeting_word a b) c ≡ (word_meets a c && word_meets b c)
  joined_meets c = joined_test (λ k d. bit_at c.mask k ≡ 1 → d ≡ bit_at c.value k) (λ w. word_meets w c)
      (λ w. meets_decides w c)

  joined_covers : (c : WordValue) → word_covers_of (meeting_word a b) c
      ≡ (word_covers_of a c && word_covers_of b c)
  joined_covers c =
      joined_test (λ k d. (bit_at c.mask k ≡ 1) × (bit_at c.value k ≡ d)) (λ w. word_covers_of w c)
      (λ w. covers_decides w c)

-- the joined value has no bit outside the joined mask
joined_within : (a b : WordValue) → word_fixed_value (meeting_word a b) ≡ (meeting_word a b).value
joined_within a b = part _ _ (λ k s. elim (or_from (word_fixed_value a) (word_fixed_value b) k s) [
  | inl p ↦ or_left a.mask b.mask k (right_set a.value a.mask k p)
  | inr q ↦ or_right a.mask b.mask k (right_set b.value b.mask k q)
])

joined_word : (a b : WordValue) → IsWord a → IsWord b → IsWord (meeting_word a b)
joined_word a b a_word b_word = search (rules, joined_within, or_lt)

pub meets_comm : (a b : WordValue) → word_meets a b ≡ word_meets b a
meets_comm a b = same_from_decides _ _ (Decides-like _ (λ bits k p q. sym (bits k q p))
    (λ bits k q p. sym (bits k p q)) (meets_decides a b)) (meets_decides b a)

joined_comm : (a b : WordValue) → meeting_word a b ≡ meeting_word b a
joined_comm a b = same_word _ _ (or_comm (word_fixed_value a) (word_fixed_value b)) (or_comm a.mask b.mask)

joined_assoc : (a b c : WordValue) → meeting_word (meeting_word a b) c
    ≡ meeting_word a (meeting_word b c)
joined_assoc a b c = same_word _ _ (ap (λ n. bit_or n (word_fixed_value c)) (joined_within a b)
    ∙ or_assoc (word_fixed_value a) (word_fixed_value b) (word_fixed_value c)
    ∙ ap (bit_or (word_fixed_value a)) (sym (joined_within b c))) (or_assoc a.mask b.mask c.mask)

-- what a covers adds nothing to a word that fixes it
joined_covered : (a b : WordValue) → IsWordFixedIn a b
    → meeting_word a b ≡ record { value = word_fixed_value b; mask = b.mask }
joined_covered a b fixed = search (rules, same_word, absorbed, right_set, both_set, left_set)

-- ---- the meet

pub meet_some : (a b m : WordValue) → word_meet_of a b ≡ Some m → (word_meets a b ≡ true)
    × (meeting_word a b ≡ m)
unfolding word_meet_of
meet_some a b m e = cond_some (word_meets a b) (meeting_word a b) m e

pub met_joined : (a b : WordValue) → word_meets a b ≡ true → word_meet_of a b ≡ Some (meeting_word a b)
unfolding word_meet_of
met_joined a b t = cond-true (word_meets a b) _ _ t

pub apart_none : (a b : WordValue) → word_meets a b ≡ false → word_meet_of a b ≡ None
unfolding word_meet_of
apart_none a b f = cond-false (word_meets a b) _ _ f

pub meet_is_some : (a b : WordValue) → is_some (word_meet_of a b) ≡ word_meets a b
meet_is_some a b = search (rules, cases_Bool, met_joined, apart_none)

-- where the meet is none the words do not agree
pub meet_none : (a b : WordValue) → word_meet_of a b ≡ None → word_meets a b ≡ false
meet_none a b e = sym (meet_is_some a b) ∙ ap is_some e

pub meet_both : (a b m : WordValue) → word_meet_of a b ≡ Some m → IsTernaryMeet a b m
meet_both a b m e h = let found = meet_some a b m e in
    ap (λ w. holds w h) (sym found.1) ∙ joined_holds a b ((meets_decides a b).0 found.0) h

pub meet_word : (a b m : WordValue) → IsWord a → IsWord b → word_meet_of a b ≡ Some m → IsWord m
meet_word a b m a_word b_word e = subst IsWord (meet_some a b m e).1 (joined_word a b a_word b_word)

pub held_meets : (a b : WordValue) (h : ℕ) → IsTrue (holds a h) → IsTrue (holds b h) → word_meets a b ≡ true
held_meets a b h p q = search (rules, meets_decides, holds_decides)

pub meet_disjoint : (a b : WordValue) (h : ℕ) → word_meet_of a b ≡ None
    → (holds a h && holds b h) ≡ false
meet_disjoint a b h e = false_from_ne_true _ (λ t. let both = and_parts _ _ t in both_ways _
    (meet_none a b e) (held_meets a b h both.0 both.1))

pub meet_comm : (a b : WordValue) → word_meet_of a b ≡ word_meet_of b a
unfolding word_meet_of
meet_comm a b = λ i. cond (meets_comm a b i) (Some (joined_comm a b i)) None

cond_and : {X : Type 0} (p q : Bool) (x y : X) → cond p (cond q x y) y ≡ cond (p && q) x y
cond_and p q x y = search rules

then_cond : {X Y : Type 0} (f : X → Option Y) (p : Bool) (x : X)
    → option_and_then f (cond p (Some x) None) ≡ cond p (f x) None
then_cond f p x = search rules

-- the meet of three words, from the left and from the right
meet_left : (a b c : WordValue) → option_and_then (λ m. word_meet_of m c) (word_meet_of a b) ≡ cond
    (word_meets a b && word_meets (meeting_word a b) c) (Some (meeting_word (meeting_word a b) c)) None
unfolding word_meet_of
meet_left a b c = search (rules, then_cond, cond_and)

meet_right : (a b c : WordValue) → option_and_then (word_meet_of a) (word_meet_of b c) ≡ cond
    (word_meets b c && word_meets a (meeting_word b c)) (Some (meeting_word a (meeting_word b c))) None
unfolding word_meet_of
meet_right a b c = then_cond (word_meet_of a) (word_meets b c) (meeting_word b c) ∙ cond_and (word_meets b c) _ _ _

-- any two of three words agree
abbrev AgreesOnEach : WordValue → WordValue → WordValue → Type 0
AgreesOnEach a b c = WordsAgreeOnFixedBits a b × WordsAgreeOnFixedBits a c × WordsAgreeOnFixedBits b c

left_decides : (a b c : WordValue) → Decides (word_meets a b && word_meets (meeting_word a b) c)
    (AgreesOnEach a b c)
left_decides a b c = (
  λ t. let two = and_parts _ _ t in
      let ab = (meets_decides a b).0 two.0 in
      let rest = and_parts _ _ (sym (joined_meets a b ab c) ∙ two.1) in
      (ab, (meets_decides a c).0 rest.0, (meets_decides b c).0 rest.1),
  λ all. and_from _ _ ((meets_decides a b).1 all.0) (joined_meets a b all.0 c
      ∙ and_from _ _ ((meets_decides a c).1 all.1) ((meets_decides b c).1 all.2)),
)

right_decides : (a b c : WordValue) → Decides (word_meets b c && word_meets a (meeting_word b c))
    (AgreesOnEach a b c)
right_decides a b c = (
  λ t. let two = and_parts _ _ t in
      let bc = (meets_decides b c).0 two.0 in
      let swapped = sym (meets_comm a (meeting_word b c) ∙ joined_meets b c bc a) in
      let rest = and_parts _ _ (swapped ∙ two.1) in (
        (meets_decides a b).0 (meets_comm a b ∙ rest.0),
        (meets_decides a c).0 (meets_comm a c ∙ rest.1),
        bc,
      ),
  λ all. and_from _ _ ((meets_decides b c).1 all.2) (meets_comm a (meeting_word b c)
      ∙ joined_meets b c all.2 a ∙ and_from _ _ (meets_comm b a ∙ (meets_decides a b).1 all.0)
      (meets_comm c a ∙ (meets_decides a c).1 all.1)),
)

pub meet_assoc : (a b c : WordValue) → option_and_then (λ m. word_meet_of m c) (word_meet_of a b)
    ≡ option_and_then (word_meet_of a) (word_meet_of b c)
meet_assoc a b c = meet_left a b c
    ∙ (λ i. cond (same_from_decides _ _ (left_decides a b c) (right_decides a b c) i)
    (Some (joined_assoc a b c i)) None) ∙ sym (meet_right a b c)

pub meet_exact : (w : WordValue) (h : ℕ) → IsWord w → h < 2 ^ 104 → word_meets w (exact_word h) ≡ holds w
    h
meet_exact w h w_word fits = same_from_decides _ _ (Decides-like _
    (λ bits k p. sym (bits k p (bit_at_ones 104 k (set_below 104 w.mask k w_word.bounded p))))
    (λ bits k p s. sym (bits k p)) (meets_decides w (exact_word h))) (holds_decides w h)

pub meet_greatest : (a b m c : WordValue) → word_meet_of a b ≡ Some m
    → word_covers_of m c ≡ (word_covers_of a c && word_covers_of b c)
meet_greatest a b m c e = let found = meet_some a b m e in
    ap (λ w. word_covers_of w c) (sym found.1) ∙ joined_covers a b ((meets_decides a b).0 found.0) c

pub meet_within : (a b m : WordValue) → word_meet_of a b ≡ Some m → IsTrue (word_covers_of a m)
    × IsTrue (word_covers_of b m)
meet_within a b m e = and_parts _ _ (sym (meet_greatest a b m m e) ∙ covers_reflexive m)

-- a word agrees with what it covers, and with less of what that meets
covers_meets : (a b c : WordValue) → IsTrue (word_covers_of a b) → word_meets b c ≡ true → word_meets a c ≡ true
covers_meets a b c ab bc = search (rules, covers_decides, meets_decides)

meets_itself : (a : WordValue) → word_meets a a ≡ true
meets_itself a = (meets_decides a a).1 (λ k p q. refl)

pub meet_covered : (a b : WordValue) → IsWord b → IsTrue (word_covers_of a b) → word_meet_of a b ≡ Some b
meet_covered a b b_word ab = met_joined a b (covers_meets a b b ab (meets_itself b))
    ∙ ap Some (joined_covered a b ((covers_decides a b).0 ab) ∙ same_word _ _ b_word.within refl)

pub meets_cover : (a b : WordValue) → IsTrue (word_covers_of a b) → IsTrue (word_meets b a)
meets_cover a b ab = meets_comm b a ∙ covers_meets a b b ab (meets_itself b)

pub meet_any : (a : WordValue) → IsWord a → word_meet_of a any_word ≡ Some a
meet_any a a_word = meet_comm a any_word ∙ meet_covered any_word a a_word (any_covers a)

pub meet_monotone : (a b c : WordValue) → IsTrue (word_covers_of a b) → word_meet_of a c ≡ None
    → word_meet_of b c ≡ None
meet_monotone a b c ab none = apart_none b c
    (false_from_ne_true _ (λ t. both_ways _ (meet_none a c none) (covers_meets a b c ab t)))

pub meet_narrowed : (w a b : WordValue) → IsTrue (word_covers_of a b)
    → option_and_then (λ m. word_meet_of m b) (word_meet_of w a) ≡ word_meet_of w b
unfolding word_meet_of
meet_narrowed w a b ab =
    let fixed = (covers_decides a b).0 ab in
    let agree = (meets_decides a b).0 (covers_meets a b b ab (meets_itself b)) in
    let test = same_from_decides _ _ (Decides-like _ (λ all. all.1)
    (λ wb. (λ k p q. wb k p (fixed k q).0 ∙ (fixed k q).1, wb, agree)) (left_decides w a b))
    (meets_decides w b) in
    let word = joined_assoc w a b ∙ ap (meeting_word w) (joined_covered a b fixed)
    ∙ same_word _ _ (ap (bit_or (word_fixed_value w))
    (and_assoc b.mask b.value b.mask ∙ ap (bit_and b.value) (and_self b.mask))) refl in
    meet_left w a b ∙ (λ i. cond (test i) (Some (word i)) None)

-- ---- a fixed bit, and the halves of a word

pub is_fixed_decides : (w : WordValue) (k : ℕ) → Decides (is_word_bit_fixed w k) (bit_at w.mask k ≡ 1)
unfolding is_word_bit_fixed
is_fixed_decides w k = Decides-eqb (bit_at w.mask k) 1

pub free_bit : (w : WordValue) (k : ℕ) → IsFalse (is_word_bit_fixed w k) → bit_at w.mask k ≡ 1 → ⊥
free_bit w k free p = both_ways _ free ((is_fixed_decides w k).1 p)

pub is_fixed_same : (v w : WordValue) (k : ℕ) → bit_at v.mask k ≡ bit_at w.mask k
    → is_word_bit_fixed v k ≡ is_word_bit_fixed w k
unfolding is_word_bit_fixed
is_fixed_same v w k e = ap (λ d. d == 1) e

pub implies_decides : {P Q : Type 0} (p q : Bool) → Decides p P → Decides q Q
    → Decides (not p || q) (P → Q)
implies_decides p q of_p of_q = search (rules, both_ways)

admits_decides : (w : WordValue) (k : ℕ) (one : Bool)
    → Decides (word_admits w k one) (bit_at w.mask k ≡ 1 → bit_at w.value k ≡ from_bool one)
unfolding word_admits
admits_decides w k one = search (rules, implies_decides, is_fixed_decides)

-- A word that fixes all of the 104 bits fixes what any word does: what agrees with it covers it.
pub covers_full : (a b : WordValue) → IsWord a → ((k : ℕ) → k < 104 → IsTrue (is_word_bit_fixed b k))
    → IsTrue (word_meets a b) → IsTrue (word_covers_of a b)
covers_full a b a_word full agree = (covers_decides a b).1
    (λ k p. let q = (is_fixed_decides b k).0 (full k (set_below 104 a.mask k a_word.bounded p)) in
    (q, sym ((meets_decides a b).0 agree k p q)))

pub held_admits : (w : WordValue) (k : ℕ) (one : Bool) (h : ℕ) → IsTrue (holds w h)
    → bit_at h k ≡ from_bool one → IsTrue (word_admits w k one)
held_admits w k one h held e = search (rules, admits_decides, holds_decides)

module _ (w : WordValue) (k : ℕ) (one : Bool) where
  pub fix_fixed : IsTrue (is_word_bit_fixed (word_fix_of w k one) k)
  unfolding word_fix_of
  fix_fixed = (is_fixed_decides (word_fix_of w k one) k).1 (or_pow-same w.mask k)

  pub fix_other : (j : ℕ) → j ≢ k → is_word_bit_fixed (word_fix_of w k one) j ≡ is_word_bit_fixed w j
  unfolding word_fix_of
  fix_other j away = is_fixed_same (word_fix_of w k one) w j (or_pow-other w.mask k j away)

  pub fix_word : IsWord w → k < 104 → IsWord (word_fix_of w k one)
  unfolding word_fix_of
  fix_word w_word within = record {
    within = part (ternary_with_bit w.value k one) (bit_or w.mask (2 ^ k)) (by_place k
        (λ j. bit_at (ternary_with_bit w.value k one) j ≡ 1 → bit_at (bit_or w.mask (2 ^ k)) j ≡ 1) (λ _.
        or_pow-same w.mask k) (λ j away set. or_pow-other w.mask k j away ∙ of_part w.value w.mask
        w_word.within j (sym (with_bit-other w.value k one j away) ∙ set)));
    bounded = or_lt 104 w.mask (2 ^ k) w_word.bounded (pow_below k 104 within);
  }

  module _ (free : IsFalse (is_word_bit_fixed w k)) where
    pub fix_holds : (h : ℕ) → holds (word_fix_of w k one) h
        ≡ (holds w h && (bit_at h k == from_bool one))
    unfolding word_fix_of
    fix_holds h = same_from_decides _ _ (Decides-like _ (λ bits. (
      by_place k (λ j. bit_at w.mask j ≡ 1 → bit_at h j ≡ bit_at w.value j)
          (λ p. absurd (free_bit w k free p)) (λ j away p. bits j
          (or_pow-other w.mask k j away ∙ p) ∙ with_bit-other w.value k one j away),
      bits k (or_pow-same w.mask k) ∙ with_bit-same w.value k one,
    ))
        (λ both. by_place k
        (λ j. bit_at (bit_or w.mask (2 ^ k)) j ≡ 1 → bit_at h j ≡ bit_at (ternary_with_bit w.value k one) j)
        (λ _. both.1 ∙ sym (with_bit-same w.value k one)) (λ j away s. both.0 j
        (sym (or_pow-other w.mask k j away) ∙ s) ∙ sym (with_bit-other w.value k one j away)))
        (holds_decides (word_fix_of w k one) h))
        (Decides-and _ _ (holds_decides w h) (Decides-eqb (bit_at h k) (from_bool one)))

    pub fix_within : IsTrue (word_covers_of w (word_fix_of w k one))
    unfolding word_fix_of
    fix_within = search (rules, covers_decides, free_bit, or_pow-other, with_bit-other)

-- one of two tests on the halves
parted : (t x y : Bool) → ((x ≡ true) × (y ≡ false)) ⊎ ((x ≡ false) × (y ≡ true))
    → t ≡ ((t && x) || (t && y))
parted t x y h = search (rules, false)

bit_parts : (h k : ℕ) → (((bit_at h k == from_bool false) ≡ true)
    × ((bit_at h k == from_bool true) ≡ false))
    ⊎ (((bit_at h k == from_bool false) ≡ false) × ((bit_at h k == from_bool true) ≡ true))
bit_parts h k = search (rules, digit_cases, eq-eqb, ne_eqb, zero_not_one)

pub halves_split : (w : WordValue) (k h : ℕ) → IsFalse (is_word_bit_fixed w k)
    → holds w h ≡ (holds (word_fix_of w k false) h || holds (word_fix_of w k true) h)
halves_split w k h free = search (rules, bit_parts, fix_holds)

pub halves_apart : (w : WordValue) (k : ℕ) → word_meet_of (word_fix_of w k false) (word_fix_of w k true) ≡ None
unfolding word_fix_of
halves_apart w k = apart_none _ _ (false_from_ne_true _ (λ t. zero_not_one _ refl
    (sym (with_bit-same w.value k false) ∙ (meets_decides (word_fix_of w k false) (word_fix_of w k true)).0 t
    k (or_pow-same w.mask k) (or_pow-same w.mask k) ∙ with_bit-same w.value k true)))

module _ (w r : WordValue) (k : ℕ) (one : Bool) where
  pub meets_half : IsFalse (is_word_bit_fixed r k)
      → word_meets w (word_fix_of r k one) ≡ (word_meets w r && word_admits w k one)
  unfolding word_fix_of
  meets_half free = same_from_decides _ _ (Decides-like _ (λ bits. (
    by_place k
        (λ j. bit_at w.mask j ≡ 1 → bit_at r.mask j ≡ 1 → bit_at w.value j ≡ bit_at r.value j)
        (λ _ q. absurd (free_bit r k free q)) (λ j away p q. bits j p
        (or_pow-other r.mask k j away ∙ q) ∙ with_bit-other r.value k one j away),
    λ p. bits k p (or_pow-same r.mask k) ∙ with_bit-same r.value k one,
  ))
      (λ both. by_place k (λ j. bit_at w.mask j ≡ 1 → bit_at (bit_or r.mask (2 ^ k)) j ≡ 1
      → bit_at w.value j ≡ bit_at (ternary_with_bit r.value k one) j)
      (λ p _. both.1 p ∙ sym (with_bit-same r.value k one)) (λ j away p s. both.0 j p
      (sym (or_pow-other r.mask k j away) ∙ s) ∙ sym (with_bit-other r.value k one j away)))
      (meets_decides w (word_fix_of r k one)))
      (Decides-and _ _ (meets_decides w r) (admits_decides w k one))

  pub covers_half : word_covers_of w (word_fix_of r k one) ≡ (word_covers_of (ternary_with_bit_freed w k) r && word_admits w k one)
  unfolding word_fix_of ternary_with_bit_freed
  covers_half = same_from_decides _ _ (Decides-like _ (λ bits. (
    by_place k (λ j. bit_at (ternary_without_bit w.mask k) j ≡ 1 → (bit_at r.mask j ≡ 1)
        × (bit_at r.value j ≡ bit_at (ternary_without_bit w.value k) j))
        (λ s. absurd (not_set _ k (ternary_without_bit-same w.mask k) s))
        (λ j away s. let b = bits j (sym (ternary_without_bit-other w.mask k j away) ∙ s) in (
          sym (or_pow-other r.mask k j away) ∙ b.0,
          sym (with_bit-other r.value k one j away)
              ∙ b.1 ∙ sym (ternary_without_bit-other w.value k j away),
        )),
    λ p. sym (bits k p).1 ∙ with_bit-same r.value k one,
  ))
      (λ both. by_place k (λ j. bit_at w.mask j ≡ 1 → (bit_at (bit_or r.mask (2 ^ k)) j ≡ 1)
      × (bit_at (ternary_with_bit r.value k one) j ≡ bit_at w.value j))
      (λ p. (or_pow-same r.mask k, with_bit-same r.value k one ∙ sym (both.1 p)))
      (λ j away p. let b = both.0 j (ternary_without_bit-other w.mask k j away ∙ p) in (
        or_pow-other r.mask k j away ∙ b.0,
        with_bit-other r.value k one j away ∙ b.1 ∙ ternary_without_bit-other w.value k j away,
      )))
      (covers_decides w (word_fix_of r k one)))
      (Decides-and _ _ (covers_decides (ternary_with_bit_freed w k) r) (admits_decides w k one))

-- ---- a freed bit

module _ (w : WordValue) (k : ℕ) where
  pub free_free : IsFalse (is_word_bit_fixed (ternary_with_bit_freed w k) k)
  unfolding ternary_with_bit_freed
  free_free = false_from_ne_true _
      (λ t. not_set _ k (ternary_without_bit-same w.mask k) ((is_fixed_decides (ternary_with_bit_freed w k) k).0 t))

  pub free_other : (j : ℕ) → j ≢ k → is_word_bit_fixed (ternary_with_bit_freed w k) j ≡ is_word_bit_fixed w j
  unfolding ternary_with_bit_freed
  free_other j away = is_fixed_same (ternary_with_bit_freed w k) w j (ternary_without_bit-other w.mask k j away)

  pub free_word : IsWord w → IsWord (ternary_with_bit_freed w k)
  unfolding ternary_with_bit_freed
  free_word w_word = record {
    within = part (ternary_without_bit w.value k) (ternary_without_bit w.mask k) (by_place k
        (λ j. bit_at (ternary_without_bit w.value k) j ≡ 1 → bit_at (ternary_without_bit w.mask k) j ≡ 1) (λ s.
        absurd (not_set _ k (ternary_without_bit-same w.value k) s))
        (λ j away s. ternary_without_bit-other w.mask k j away
        ∙ of_part w.value w.mask w_word.within j (sym (ternary_without_bit-other w.value k j away) ∙ s)));
    bounded = omega (arith, ternary_without_bit-le w.mask k, w_word.bounded);
  }

  pub free_wider : IsTrue (word_covers_of (ternary_with_bit_freed w k) w)
  unfolding ternary_with_bit_freed
  free_wider = (covers_decides (ternary_with_bit_freed w k) w).1
      (by_place k (λ j. bit_at (ternary_without_bit w.mask k) j ≡ 1
      → (bit_at w.mask j ≡ 1) × (bit_at w.value j ≡ bit_at (ternary_without_bit w.value k) j))
      (λ s. absurd (not_set _ k (ternary_without_bit-same w.mask k) s)) (λ j away s. (
        cc (ternary_without_bit-other w.mask k j away, s),
        sym (ternary_without_bit-other w.value k j away),
      )))

  pub free_holds : (h : ℕ)
      → holds (ternary_with_bit_freed w k) h ≡ (holds w (ternary_with_bit h k false) || holds w (ternary_with_bit h k true))
  unfolding ternary_with_bit_freed
  free_holds h = same_from_decides _ _ (Decides-like _ (λ bits. elim (digit_cases w.value k) [
    | inl zero_bit ↦ inl (filled bits false zero_bit)
    | inr one_bit ↦ inr (filled bits true one_bit)
  ])
      (λ either. elim either [ inl bits ↦ emptied false bits | inr bits ↦ emptied true bits ])
      (holds_decides (ternary_with_bit_freed w k) h))
      (Decides-or _ _ (holds_decides w (ternary_with_bit h k false)) (holds_decides w (ternary_with_bit h k true)))
    where
      filled : AgreesOnWordMask (ternary_with_bit_freed w k) h → (one : Bool) → bit_at w.value k ≡ from_bool one
          → AgreesOnWordMask w (ternary_with_bit h k one)
      filled bits one e = by_place k
          (λ j. bit_at w.mask j ≡ 1 → bit_at (ternary_with_bit h k one) j ≡ bit_at w.value j)
          (λ _. with_bit-same h k one ∙ sym e) (λ j away p. with_bit-other h k one j away
          ∙ bits j (ternary_without_bit-other w.mask k j away ∙ p) ∙ ternary_without_bit-other w.value k j away)

      emptied : (one : Bool) → AgreesOnWordMask w (ternary_with_bit h k one) → AgreesOnWordMask (ternary_with_bit_freed w k) h
      emptied one bits = by_place k
          (λ j. bit_at (ternary_without_bit w.mask k) j ≡ 1 → bit_at h j ≡ bit_at (ternary_without_bit w.value k) j)
          (λ s. absurd (not_set _ k (ternary_without_bit-same w.mask k) s))
          (λ j away s. sym (with_bit-other h k one j away) ∙ bits j
          (sym (ternary_without_bit-other w.mask k j away) ∙ s) ∙ sym (ternary_without_bit-other w.value k j away))

pub free_monotone : (a b : WordValue) (k : ℕ) → IsTrue (word_covers_of a b)
    → IsTrue (word_covers_of (ternary_with_bit_freed a k) (ternary_with_bit_freed b k))
unfolding ternary_with_bit_freed
free_monotone a b k ab = let fixed = (covers_decides a b).0 ab in
    (covers_decides (ternary_with_bit_freed a k) (ternary_with_bit_freed b k)).1
    (by_place k (λ j. bit_at (ternary_without_bit a.mask k) j ≡ 1 → (bit_at (ternary_without_bit b.mask k) j ≡ 1)
    × (bit_at (ternary_without_bit b.value k) j ≡ bit_at (ternary_without_bit a.value k) j))
    (λ s. absurd (not_set _ k (ternary_without_bit-same a.mask k) s))
    (λ j away s. let f = fixed j (sym (ternary_without_bit-other a.mask k j away) ∙ s) in (
      ternary_without_bit-other b.mask k j away ∙ f.0,
      ternary_without_bit-other b.value k j away ∙ f.1 ∙ sym (ternary_without_bit-other a.value k j away),
    )))

-- ---- what the methods compute

module _ (a b : WordValue) (a_word : IsWord a) (b_word : IsWord b) where
  pub inclusion : IsTrue (word_covers_of a b) ↔ WordIncludes a b
  inclusion = (λ t h fits held. covers_held a b h t held, includes_covers a b a_word b_word)

  pub disjoint : IsNone (word_meet_of a b) ↔ AreDisjointWords a b
  disjoint = (
    λ none h fits p q. both_ways _ (sym (meet_is_some a b) ∙ none) (held_meets a b h p q),
    λ no_header. meet_is_some a b ∙ false_from_ne_true _ (λ t.
        let joined_value = value_below (meeting_word a b) (joined_word a b a_word b_word) in
        let held = and_parts _ _
        (sym (joined_holds a b ((meets_decides a b).0 t) (meeting_word a b).value)
        ∙ holds_value (meeting_word a b)) in
        no_header (meeting_word a b).value joined_value held.0 held.1),
  )

  -- the same of a test, or of a meet, where the two words go by other names
  pub inclusion_as : {v w : WordValue} {t : Bool} → a ≡ v → b ≡ w → t ≡ word_covers_of v w
      → IsTrue t ↔ WordIncludes v w
  inclusion_as same also is = rw (is, ← same, ← also) inclusion

  pub disjoint_as : {v w : WordValue} {met : Option WordValue} → a ≡ v → b ≡ w → met ≡ word_meet_of v w
      → IsNone met ↔ AreDisjointWords v w
  disjoint_as same also is = rw (is, ← same, ← also) disjoint

  -- no value bit is outside the masks, so the values need no masking
  plain_sum : meeting_word a b ≡ record {
    value = bit_or a.value b.value;
    mask = bit_or a.mask b.mask;
  }
  plain_sum = same_word _ _ (λ i. bit_or (a_word.within i) (b_word.within i)) refl

  pub sum_meet : bit_and a.value (bit_and a.mask b.mask) ≡ bit_and b.value (bit_and a.mask b.mask)
      → Some (record { value = bit_or a.value b.value; mask = bit_or a.mask b.mask }) ≡ word_meet_of a b
  unfolding word_meets
  sum_meet e = sym (met_joined a b (eq-eqb _ _ e) ∙ ap Some plain_sum)

  pub sum_word : IsWord (record { value = bit_or a.value b.value; mask = bit_or a.mask b.mask })
  sum_word = subst IsWord plain_sum (joined_word a b a_word b_word)

  pub no_meet : (bit_and a.value (bit_and a.mask b.mask) ≡ bit_and b.value (bit_and a.mask b.mask)
      → ⊥) → None ≡ word_meet_of a b
  unfolding word_meets
  no_meet n = sym (apart_none a b (ne_eqb _ _ n))

module _ (w : WordValue) (w_word : IsWord w) where
  pub masked_holds : (h : ℕ) → (bit_and h w.mask == w.value) ≡ holds w h
  unfolding holds
  masked_holds h = ap (λ v. bit_and h w.mask == v) (sym w_word.within)

  pub set_fix : (k : ℕ) (one : Bool) → k < 104 → IsFalse (is_word_bit_fixed w k) → record {
    value = bit_or w.value (from_bool one * 2 ^ k % 2 ^ 128);
    mask = bit_or w.mask (1 * 2 ^ k % 2 ^ 128);
  } ≡ word_fix_of w k one
  unfolding word_fix_of
  set_fix k one within free =
      let unset : bit_at w.value k ≡ 1
      → ⊥ = λ set. free_bit w k free (of_part w.value w.mask w_word.within k set) in
      same_word _ _
      (λ i. bit_or (sym (ternary_without_bit-unset w.value k unset) i) (shifted k one within i))
      (ap (bit_or w.mask) (shifted_one k within))

  pub cleared_free : (k : ℕ) → k < 104 → record {
    value = bit_and w.value (2 ^ 128 - 1 - 1 * 2 ^ k % 2 ^ 128);
    mask = bit_and w.mask (2 ^ 128 - 1 - 1 * 2 ^ k % 2 ^ 128);
  } ≡ ternary_with_bit_freed w k
  unfolding ternary_with_bit_freed
  cleared_free k within = same_word _ _ (masked_out w.value k (value_below w w_word) within)
      (masked_out w.mask k w_word.bounded within)

pub tested_bit : (w : WordValue) (k : ℕ) → (bit_and (w.mask / 2 ^ k) 1 == 1) ≡ is_word_bit_fixed w k
unfolding is_word_bit_fixed
tested_bit w k = ap (λ d. d == 1) (shr_and_one w.mask k)
