-- What `{:010x}` and `{:016x}` write of parts of a number is what `word_hex_digits` has of the
-- whole.
use Rattle.std.proofs.Common.{[], ◌%◌, ◌*◌, ◌++◌, ◌+◌, ◌-◌, ◌/◌, ◌<◌, ◌==◌, ◌^◌, ◌∙◌, ◌∷◌, ◌≡◌, ◌≤◌, List, ap, append_assoc, arith, bit_and, eq-eqb, false, inl, inr, length, length-append, ne_eqb, pow-add, refl, replicate, shr-shr, subst, suc, sym, zero, ℕ, rules}
use Rattle.std.specs.Fmt.{char_count, digit_glyph, digits, digits_onto, padded_integral, format_spec}
use Rattle.std.proofs.lemmas.Bool.{cases_eq, cond-true, cond-false}
use Rattle.std.proofs.lemmas.Nat.{and_mask, mod-pow-add}
use Rattle.ternary.specs.Exports.{word_hex_digits}

-- the lowest digit of n
abbrev last_digit : ℕ → List ℕ
last_digit n = digit_glyph false (n % 16) ∷ []

-- ---- two parts of a number

pub word_hex_digits-parts : (k j m n : ℕ) → m ≡ k + j
    → word_hex_digits m n ≡ word_hex_digits j (n / 2 ^ (4 * k)) ++ word_hex_digits k (n % 2 ^ (4 * k))
unfolding word_hex_digits
word_hex_digits-parts zero j m n e = search rules
word_hex_digits-parts (suc k) j zero n e = absurd (omega arith)
word_hex_digits-parts (suc k) j (suc m) n e =
    let width : 4 * k + 4 ≡ 4 * suc k = omega arith in
    let high : n / 16 / 2 ^ (4 * k) ≡ n / 2 ^ (4 * suc k) = shr-shr n 4 (4 * k)
    ∙ ap (λ w. n / 2 ^ w) (omega arith) in
    let split = ap (λ w. n % 2 ^ w) (sym width) ∙ mod-pow-add n (4 * k) 4 in
    let low : n % 2 ^ (4 * suc k) / 16 ≡ n / 16 % 2 ^ (4 * k) = omega (arith, split) in
    let last : n % 2 ^ (4 * suc k) % 16 ≡ n % 16 = omega (arith, split) in
    ap (λ ds. ds ++ last_digit n) (word_hex_digits-parts k j m (n / 16) (omega arith))
    ∙ append_assoc (word_hex_digits j (n / 16 / 2 ^ (4 * k))) (word_hex_digits k (n / 16 % 2 ^ (4 * k)))
    (last_digit n)
    ∙ (λ i. word_hex_digits j (high i)
    ++ (word_hex_digits k (sym low i) ++ digit_glyph false (sym last i) ∷ []))

-- ---- a padded part

-- the digits of n, of which there are at most so many
abbrev shown : ℕ → ℕ → List ℕ
shown most n = digits_onto most 16 false n []

shown_last : (most n : ℕ) (acc : List ℕ) → n / 16 ≡ 0 → digits_onto (suc most) 16 false n acc
    ≡ digit_glyph false (n % 16) ∷ acc
shown_last most n acc one = cond-true (n / 16 == 0) _ _ (eq-eqb _ _ one)

shown_step : (most n : ℕ) (acc : List ℕ) → (n / 16 ≡ 0 → ⊥) → digits_onto (suc most) 16 false n acc
    ≡ digits_onto most 16 false (n / 16) (digit_glyph false (n % 16) ∷ acc)
shown_step most n acc more = cond-false (n / 16 == 0) _ _ (ne_eqb _ _ more)

shown_onto : (most n : ℕ) (acc : List ℕ) → digits_onto most 16 false n acc ≡ shown most n ++ acc
shown_onto zero n acc = refl
shown_onto (suc most) n acc = elim (cases_eq (n / 16) 0) [
  | inl one ↦ shown_last most n acc one ∙ ap (λ ds. ds ++ acc) (sym (shown_last most n [] one))
  | inr more ↦ shown_step most n acc more
      ∙ shown_onto most (n / 16) (digit_glyph false (n % 16) ∷ acc)
      ∙ sym (append_assoc (shown most (n / 16)) (last_digit n) acc) ∙ ap (λ ds. ds ++ acc)
      (sym (shown_step most n [] more ∙ shown_onto most (n / 16) (last_digit n)))
]

abbrev zeros : ℕ → List ℕ
zeros k = replicate {A = ℕ} k 48

zeros-push : (k : ℕ) → zeros (suc k) ≡ zeros k ++ 48 ∷ []
zeros-push zero = refl
zeros-push (suc k) = ap (λ ds. 48 ∷ ds) (zeros-push k)

zeros_are : (k : ℕ) → zeros k ≡ word_hex_digits k 0
unfolding word_hex_digits
zeros_are zero = refl
zeros_are (suc k) = zeros-push k ∙ ap (λ ds. ds ++ 48 ∷ []) (zeros_are k)

-- a text of digits, filled up with zeros to k of them
record IsPadded (k n : ℕ) (ds : List ℕ) : Type 0 where
  short : length ds ≤ k
  same : zeros (k - length ds) ++ ds ≡ word_hex_digits k n

padded_last : (k n : ℕ) → n / 16 ≡ 0 → IsPadded (suc k) n (last_digit n)
unfolding word_hex_digits
padded_last k n one = search (rules, zeros_are)

padded_more : (k n : ℕ) (ds : List ℕ) → IsPadded k (n / 16) ds
    → IsPadded (suc k) n (ds ++ last_digit n)
unfolding word_hex_digits
padded_more k n ds padded = search (rules, length-append, append_assoc)

shown_padded : (most k n : ℕ) → 0 < k → k ≤ most → n < 2 ^ (4 * k) → IsPadded k n (shown most n)
shown_padded zero k n some within fits = absurd (omega arith)
shown_padded (suc most) zero n some within fits = absurd (omega arith)
shown_padded (suc most) (suc k) n some within fits =
    let width : 4 * suc k ≡ 4 * k + 4 = omega arith in
    let wide = ap (λ w. 2 ^ w) width ∙ pow-add 2 (4 * k) 4 in
    elim (cases_eq (n / 16) 0) [
      | inl one ↦ subst (IsPadded (suc k) n) (sym (shown_last most n [] one)) (padded_last k n one)
      | inr more ↦ let large : 0 < k = elim (cases_eq k 0) [
        | inl none ↦ absurd (more (omega (arith, wide, ap (λ j. 2 ^ (4 * j)) none)))
        | inr some ↦ omega arith
      ] in
          subst (IsPadded (suc k) n)
          (sym (shown_step most n [] more ∙ shown_onto most (n / 16) (last_digit n)))
          (padded_more k n (shown most (n / 16))
          (shown_padded most k (n / 16) large (omega arith) (omega (arith, wide))))
    ]

-- what a hole writes that asks for k digits with zeros in front
filled : (k : ℕ) (ds : List ℕ) → padded_integral (format_spec 32 0 4 k (2 ^ 64 - 1)) false [] ds
    ≡ zeros (k - length ds) ++ ds
unfolding padded_integral char_count
filled k ds = search rules

shown_are : (n : ℕ) → shown 64 n ≡ digits 16 false n
unfolding digits
shown_are n = refl

pub padded_text : (k n : ℕ) → 0 < k → k ≤ 64 → n < 2 ^ (4 * k)
    → padded_integral (format_spec 32 0 4 k (2 ^ 64 - 1)) false [] (digits 16 false n) ≡ word_hex_digits
    k n
padded_text k n some within fits = filled k (digits 16 false n)
    ∙ (subst (IsPadded k n) (shown_are n) (shown_padded 64 k n some within fits)).same

-- the 10 digits above the low 64 bits, and the 16 of these bits
pub hex_halves : (n ones : ℕ) → n < 2 ^ 104 → ones ≡ 2 ^ 64 - 1
    → padded_integral (format_spec 32 0 4 10 (2 ^ 64 - 1)) false [] (digits 16 false (n / 2 ^ 64))
    ++ padded_integral (format_spec 32 0 4 16 (2 ^ 64 - 1)) false []
    (digits 16 false (bit_and n ones)) ≡ word_hex_digits 26 n
hex_halves n ones fits all =
    let low : bit_and n ones ≡ n % 2 ^ 64 = ap (bit_and n) all ∙ and_mask n 64 in
    ap (λ ds. ds ++ padded_integral (format_spec 32 0 4 16 (2 ^ 64 - 1)) false []
    (digits 16 false (bit_and n ones)))
    (padded_text 10 (n / 2 ^ 64) (omega arith) (omega arith) (omega arith))
    ∙ ap (λ m. word_hex_digits 10 (n / 2 ^ 64) ++ padded_integral (format_spec 32 0 4 16 (2 ^ 64 - 1))
    false [] (digits 16 false m)) low
    ∙ ap (λ ds. word_hex_digits 10 (n / 2 ^ 64) ++ ds)
    (padded_text 16 (n % 2 ^ 64) (omega arith) (omega arith) (omega arith))
    ∙ sym (word_hex_digits-parts 16 10 26 n refl)
