-- The versions that a switch acknowledged.
use Rattle.std.proofs.Common.{◌&&◌, ◌-◌, ◌<◌, ◌^◌, ◌||◌, ◌∙◌, ◌≡◌, ◌≤◌, ◌⊎◌, Bool, IsTrue, ap, arith, bit_or, cond, eq-eqb, eqb, false, inl, inr, max, ne_eqb, sym, true, ℕ, rules}
use Rattle.base.proofs.Exports.{bit_at, bit_at-lt, bit_at-pow_other, bit_at-pow_same, bit_at-zero, bit_at_above, bit_at_or, cases_eq}
use Rattle.version_update.specs.declared.record.SwitchRecord.{SwitchRecord}
use Rattle.version_update.specs.Exports.{IsSoundUpdateRecord, mark_record_after_installed, first_update_record, has_acked, update_hello_recorded, update_takes_hello, mark_takes_installed}

pub first_acked : (version : ℕ) → 1 ≤ version → has_acked first_update_record version ≡ eqb version 1
first_acked version low = elim (cases_eq version 1) [
  | inl same ↦ ap (λ v. has_acked first_update_record v) same ∙ sym (eq-eqb version 1 same)
  | inr other ↦ ap (λ d. eqb d 1) (bit_at-pow_other 0 (version - 1) (λ e. other (omega arith)))
      ∙ sym (ne_eqb version 1 other)
]

pub hello_acked : (boot version : ℕ) (known : SwitchRecord) → IsTrue (update_takes_hello boot known)
    → has_acked (update_hello_recorded boot known) version ≡ false
hello_acked boot version known taken = cc (taken, bit_at-zero (version - 1))

or_false : (b : Bool) → b ≡ (b || false)
or_false b = search rules

or_true : (b : Bool) → true ≡ (b || true)
or_true b = search rules

one_more : (acked version other : ℕ) → 1 ≤ version → 1 ≤ other
    → eqb (max (bit_at acked (other - 1)) (bit_at (2 ^ (version - 1)) (other - 1))) 1
    ≡ (eqb (bit_at acked (other - 1)) 1 || eqb other version)
one_more acked version other low low' = by_version (cases_eq other version) where
  by_version : (other ≡ version) ⊎ (other ≡ version → ⊥)
      → eqb (max (bit_at acked (other - 1)) (bit_at (2 ^ (version - 1)) (other - 1))) 1
      ≡ (eqb (bit_at acked (other - 1)) 1 || eqb other version)
  by_version (inl same) =
      let here : bit_at (2 ^ (version - 1)) (other - 1) ≡ 1 =
      ap (λ o. bit_at (2 ^ (version - 1)) (o - 1)) same ∙ bit_at-pow_same (version - 1) in
      let one : max (bit_at acked (other - 1)) (bit_at (2 ^ (version - 1)) (other - 1)) ≡ 1 =
      omega (arith, here, bit_at-lt acked (other - 1)) in
      ap (λ d. eqb d 1) one ∙ or_true (eqb (bit_at acked (other - 1)) 1)
      ∙ ap (λ b. eqb (bit_at acked (other - 1)) 1 || b) (sym (eq-eqb other version same))
  by_version (inr apart) =
      let none : bit_at (2 ^ (version - 1)) (other - 1) ≡ 0 = bit_at-pow_other (version - 1)
      (other - 1) (λ e. apart (omega (arith, low, low', e))) in
      let old : max (bit_at acked (other - 1)) (bit_at (2 ^ (version - 1)) (other - 1)) ≡ bit_at
      acked (other - 1) = omega (arith, none) in
      ap (λ d. eqb d 1) old ∙ or_false (eqb (bit_at acked (other - 1)) 1)
      ∙ ap (λ b. eqb (bit_at acked (other - 1)) 1 || b) (sym (ne_eqb other version apart))

pub installed_acked : (boot version other : ℕ) (known : SwitchRecord) → 1 ≤ version → 1 ≤ other
    → has_acked (mark_record_after_installed boot version known) other
    ≡ (has_acked known other || (mark_takes_installed boot known && eqb other version))
installed_acked boot version other known low low' = by_test (mark_takes_installed boot known) where
  by_test : (taken : Bool)
      → has_acked (cond taken (record known { acked = bit_or known.acked (2 ^ (version - 1)) })
      known) other ≡ (has_acked known other || (taken && eqb other version))
  by_test true = ap (λ d. eqb d 1) (bit_at_or known.acked (2 ^ (version - 1)) (other - 1))
      ∙ one_more known.acked version other low low'
  by_test false = or_false (has_acked known other)

pub past_acked : (count version : ℕ) (known : SwitchRecord) → IsSoundUpdateRecord count known
    → count < version → has_acked known version ≡ false
past_acked count version known sound past = search (rules, bit_at_above)
