-- What a word shares with half of a region that it lies in.
use Rattle.std.proofs.Common.{◌&&◌, ◌/◌, ◌<◌, ◌==◌, ◌^◌, ◌∙◌, ◌≡◌, All, Bool, IsFalse, IsTrue, List, None, Some, ap, bit_and, eq-eqb, eqb-true, false, get_or, length, refl, subst, sym, true, ℕ, rules}
use Rattle.base.proofs.Exports.{beq, bit_at, bit_at-lt, both_ways, false_from_ne_true, from_bool, nat_tests, shr_and_one}
use Rattle.ternary.specs.Exports.{WordHoldsLaws, IsWord, WordValue, word_admits, word_covers_of, word_fix_of, holds, is_word_bit_fixed, word_meet_of, meeting_word, word_meets}
use Rattle.policy_rules.specs.declared.rules.Rule.{Rule}
use Rattle.cut_tree.specs.Exports.{LiesInCutRegion}
use Rattle.ternary.proofs.TernaryCallerLemmas.{apart_none, covers_held, fix_holds, fix_word, meet_both, meet_word, meets_cover, meets_half, met_joined}

both_within : (p q t : Bool) → (p ≡ true → q ≡ true) → (p && (q && t)) ≡ (p && t)
both_within p q t is = search rules

meets_by : (w r : WordValue) (bit : ℕ) (one : Bool) → IsFalse (is_word_bit_fixed r bit)
    → IsTrue (word_covers_of r w) → word_meets w (word_fix_of r bit one) ≡ word_admits w bit one
meets_by w r bit one free within = cc (meets_half w r bit one free, meets_cover r w within)

-- ---- a word's own bit

pub admits_free : (w : WordValue) (bit : ℕ) (one : Bool) → is_word_bit_fixed w bit ≡ false
    → word_admits w bit one ≡ true
unfolding word_admits
admits_free w bit one free = rw free refl

-- a digit that is 1 or isn't, as it should be
one_digit : (n : ℕ) (one : Bool) → n < 2 → (n == 1) ≡ one → n ≡ from_bool one
one_digit n one small is = search (rules, nat_tests)

other_digit : (n : ℕ) (one : Bool) → n < 2 → ((n == 1) ≡ one → ⊥) → (n == from_bool one) ≡ false
other_digit n one small other = search (rules, false_from_ne_true, eqb-true)

same_bool : (a b : Bool) → beq a b ≡ true → a ≡ b
same_bool a b e = search rules

other_bool : (a b : Bool) → beq a b ≡ false → a ≡ b → ⊥
other_bool a b e same = search (rules, both_ways)

pub value_digit : (w : WordValue) (bit : ℕ) (one : Bool)
    → beq (bit_and (w.value / 2 ^ bit) 1 == 1) one ≡ true → bit_at w.value bit ≡ from_bool one
value_digit w bit one is = search (rules, one_digit, bit_at-lt, shr_and_one, same_bool)

pub admits_digit : (w : WordValue) (bit : ℕ) (one : Bool) → bit_at w.value bit ≡ from_bool one
    → word_admits w bit one ≡ true
unfolding word_admits
admits_digit w bit one is = search (rules, eq-eqb)

pub admits_other : (w : WordValue) (bit : ℕ) (one : Bool) → is_word_bit_fixed w bit ≡ true
    → beq (bit_and (w.value / 2 ^ bit) 1 == 1) one ≡ false → word_admits w bit one ≡ false
unfolding word_admits
admits_other w bit one fixed other = search (rules, other_digit, bit_at-lt, other_bool, shr_and_one)

both_same : (p t : Bool) → (p ≡ true → t ≡ true) → p ≡ (p && t)
both_same p t is = search rules

-- each header of a word has the bit that the word fixes
pub held_bit : WordHoldsLaws → (w : WordValue) (bit : ℕ) (one : Bool) → is_word_bit_fixed w bit ≡ true
    → bit_at w.value bit ≡ from_bool one
    → (h : ℕ) → holds w h ≡ (holds w h && (bit_at h bit == from_bool one))
unfolding is_word_bit_fixed
held_bit laws w bit one fixed is h = search (rules, both_same, eq-eqb, eqb-true)

-- ---- half of a region

pub lies_at : (region : WordValue) (rules : List Rule) (index : ℕ) (rule : Rule)
    → All (LiesInCutRegion region) rules → index < length rules → rule ≡ get_or rules index rule
    → LiesInCutRegion region rule
lies_at region rules index rule all within is =
    subst (LiesInCutRegion region) (sym is) (all index rule within)

-- the word of those of its headers that have the bit
pub half_met : WordHoldsLaws → (w r x : WordValue) (bit : ℕ) (one : Bool) → IsWord w → IsWord r
    → IsWord x → bit < 104 → IsFalse (is_word_bit_fixed r bit) → IsTrue (word_covers_of r w) → word_admits w bit one
    ≡ true → ((h : ℕ) → holds x h ≡ (holds w h && (bit_at h bit == from_bool one)))
    → Some x ≡ word_meet_of w (word_fix_of r bit one)
half_met laws w r x bit one w_word r_word x_word bound free within admitted each =
    let half = word_fix_of r bit one in
    let met = met_joined w half (meets_by w r bit one free within ∙ admitted) in
    let m_word = meet_word w half (meeting_word w half) w_word (fix_word r bit one r_word bound)
    met in
    sym (met ∙ ap Some (laws.same (meeting_word w half) x m_word x_word
    (λ h small. (meet_both w half (meeting_word w half) met) h
    ∙ ap (λ t. holds w h && t) (fix_holds r bit one free h) ∙ both_within (holds w h) (holds r h)
    (bit_at h bit == from_bool one) (λ held. covers_held r w h within held) ∙ sym (each h))))

-- no header where the word has the other bit
pub half_apart : (w r : WordValue) (bit : ℕ) (one : Bool) → IsFalse (is_word_bit_fixed r bit)
    → IsTrue (word_covers_of r w) → word_admits w bit one ≡ false → None ≡ word_meet_of w (word_fix_of r bit one)
half_apart w r bit one free within lost = search (rules, apart_none, meets_by)
