-- Masks whose bits name the switches that pass a test.
use Rattle.std.proofs.Common.{[], ◌%◌, ◌&&◌, ◌*◌, ◌++◌, ◌+◌, ◌<◌, ◌^◌, ◌||◌, ◌∙◌, ◌∷◌, ◌≡◌, ◌≤◌, Bool, IsTrue, List, Some, ap, arith, bit_or, eq-eqb, eqb, false, get_or, inl, inr, length, length-take, max, mod-eq_of_lt, ne_eqb, refl, slice_get, subst, suc, sym, take, true, zero, ℕ, rules}
use Rattle.base.proofs.Exports.{bit_at, bit_at-pow_other, bit_at-pow_same, bit_at-zero, bit_at_or, cases_eq, from_bool, nat_tests, option_map_or, pow-lt, take_more}
use Rattle.version_update.specs.declared.record.SwitchRecord.{SwitchRecord}
use Rattle.version_update.specs.Exports.{MaskNamesUpdateSwitches}

-- whether there is a switch s that passes
abbrev passes_at : (SwitchRecord → Bool) → List SwitchRecord → ℕ → Bool
passes_at passes switches s = option_map_or passes (slice_get switches s) false

and_true : (b : Bool) → b ≡ (b && true)
and_true b = search rules

and_false : (a b : Bool) → a ≡ (a || (b && false))
and_false a b = search rules

eqb-zero_suc : (n : ℕ) → eqb 0 (suc n) ≡ false
eqb-zero_suc n = grind (arith, nat_tests)

eqb-suc_zero : (n : ℕ) → eqb (suc n) 0 ≡ false
eqb-suc_zero n = grind (arith, nat_tests)

eqb-suc : (m n : ℕ) → eqb m n ≡ eqb (suc m) (suc n)
eqb-suc m n = grind (arith, nat_tests)

-- one more switch at the end
passes_at-push : (passes : SwitchRecord → Bool) (switches : List SwitchRecord)
    (known : SwitchRecord) (s : ℕ) → passes_at passes (switches ++ known ∷ []) s
    ≡ (passes_at passes switches s || (passes known && eqb s (length switches)))
passes_at-push passes [] known zero = and_true (passes known)
passes_at-push passes [] known (suc s) = rw (eqb-suc_zero s) (and_false false (passes known))
passes_at-push passes (first ∷ switches) known zero = search (rules, eqb-zero_suc, and_false)
passes_at-push passes (first ∷ switches) known (suc s) = rw (← eqb-suc s (length switches))
    (passes_at-push passes switches known s)

from_bool-or : (a b : Bool) → from_bool (a || b) ≡ max (from_bool a) (from_bool b)
from_bool-or a b = search rules

-- the mask of switch n alone
bit_of_one : (named : Bool) (n s : ℕ) → n < 64 → bit_at (from_bool named * 2 ^ n % 2 ^ 64) s
    ≡ from_bool (named && eqb s n)
bit_of_one true n s few =
    let below : 2 ^ n < 2 ^ 64 = pow-lt few in
    let plain : 1 * 2 ^ n ≡ 2 ^ n = omega arith in
    let one : 1 * 2 ^ n % 2 ^ 64 ≡ 2 ^ n = ap (λ x. x % 2 ^ 64) plain ∙ mod-eq_of_lt below in
    elim (cases_eq s n) [
      | inl same ↦ ap (λ x. bit_at x s) one ∙ subst (λ x. bit_at (2 ^ n) x ≡ from_bool (eqb x n))
          (sym same) (bit_at-pow_same n ∙ ap from_bool (sym (eq-eqb n n refl)))
      | inr other ↦ ap (λ x. bit_at x s) one ∙ bit_at-pow_other n s other
          ∙ ap from_bool (sym (ne_eqb s n other))
    ]
bit_of_one false n s few = search (rules, bit_at-zero)

-- the mask with the next switch, where that passes
pub Names-more : (mask bit : ℕ) (passes : SwitchRecord → Bool) (switches : List SwitchRecord)
    (i : ℕ) (d known : SwitchRecord) → i < length switches → length switches ≤ 64
    → get_or switches i d ≡ known → bit ≡ from_bool (passes known)
    → MaskNamesUpdateSwitches mask passes (take i switches) → MaskNamesUpdateSwitches (bit_or mask (bit * 2 ^ i % 2 ^ 64)) passes
    (take (i + 1) switches)
Names-more mask bit passes switches i d known within few here named_bit names s =
    let few' : i < 64 = omega arith in
    let len : length (take i switches) ≡ i = omega (arith, length-take i switches) in
    let grown : take (i + 1) switches ≡ take i switches ++ known ∷ [] = take_more switches i d
    within ∙ ap (λ k. take i switches ++ k ∷ []) here in
    let both = max_of (bit_at mask s) (bit_at (bit * 2 ^ i % 2 ^ 64) s) _ _ (names s)
    (ap (λ b. bit_at (b * 2 ^ i % 2 ^ 64) s) named_bit ∙ bit_of_one (passes known) i s few') in
    let pushed = ap (λ xs. passes_at passes xs s) grown ∙ passes_at-push passes (take i switches)
    known s ∙ ap (λ n. passes_at passes (take i switches) s || (passes known && eqb s n)) len in
    bit_at_or mask (bit * 2 ^ i % 2 ^ 64) s ∙ both ∙ sym (ap from_bool pushed)
  where
    max_of : (x y : ℕ) (a b : Bool) → x ≡ from_bool a → y ≡ from_bool b
        → max x y ≡ from_bool (a || b)
    max_of x y a b p q = cc (p, q, from_bool-or a b)

-- who is named is there, and passes
pub named : (mask s : ℕ) (passes : SwitchRecord → Bool) (switches : List SwitchRecord)
    → MaskNamesUpdateSwitches mask passes switches → bit_at mask s ≡ 1 → (known : SwitchRecord)
    × (slice_get switches s ≡ Some known) × IsTrue (passes known)
named mask s passes switches names set = search rules
