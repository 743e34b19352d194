-- Hexadecimal digits, two at a time.
use Rattle.std.proofs.Common.{[], ◌%◌, ◌*◌, ◌++◌, ◌+◌, ◌/◌, ◌<◌, ◌∙◌, ◌∷◌, ◌≡◌, List, add-one, ap, append_assoc, arith, drop, false, get_or, length, length-set, refl, set, sym, ℕ}
use Rattle.std.specs.Fmt.{digit_glyph}
use Rattle.std.proofs.lemmas.List.{drop-set, set_comm}
use Rattle.ternary.specs.Exports.{word_hex_digits}
use Rattle.lines.proofs.LinesCallerLemmas.{pair_at}
use Rattle.lines.specs.declared.rules.TheConstants.{HEX_PAIRS}

-- the digit of a number below 16
abbrev pub glyph : ℕ → ℕ
glyph n = digit_glyph false n

-- the table has both digits of a number below 256
pub pairs_at : (n : ℕ) → n < 256 → (get_or HEX_PAIRS (n * 2) 0 ≡ glyph (n / 16))
    × (get_or HEX_PAIRS (n * 2 + 1) 0 ≡ glyph (n % 16))
pairs_at n within = pair_at HEX_PAIRS (λ n. glyph (n / 16)) (λ n. glyph (n % 16)) 256 n tt within

-- one more digit is written
more : (at left : ℕ) (digits : List ℕ) → at < length digits
    → word_hex_digits (at + 1) left ++ drop (at + 1) digits
    ≡ word_hex_digits at (left / 16) ++ drop at (set digits at (glyph (left % 16)))
unfolding word_hex_digits
more at left digits within = ap (λ n. word_hex_digits n left ++ drop (at + 1) digits) (add-one at)
    ∙ append_assoc (word_hex_digits at (left / 16)) (glyph (left % 16) ∷ []) (drop (at + 1) digits) ∙ ap
    (λ ys. word_hex_digits at (left / 16) ++ ys) (sym (drop-set digits at (glyph (left % 16)) within))

-- two digits more stand
pub two_more : (at left : ℕ) (digits : List ℕ) → at + 1 < length digits
    → word_hex_digits (at + 2) left ++ drop (at + 2) digits ≡ word_hex_digits at (left / 256)
    ++ drop at (set (set digits at (glyph (left % 256 / 16))) (at + 1) (glyph (left % 256 % 16)))
two_more at left digits within =
    let two : at + 2 ≡ at + 1 + 1 = omega arith in
    let rest : left / 16 / 16 ≡ left / 256 = omega arith in
    let ten : left / 16 % 16 ≡ left % 256 / 16 = omega arith in
    let one : left % 16 ≡ left % 256 % 16 = omega arith in
    let last = set digits (at + 1) (glyph (left % 16)) in
    ap (λ n. word_hex_digits n left ++ drop n digits) two
    ∙ more (at + 1) left digits within
    ∙ more at (left / 16) last (omega (arith, length-set digits (at + 1) (glyph (left % 16))))
    ∙ rw (
      set_comm digits at (at + 1) (glyph (left % 256 / 16)) (glyph (left % 256 % 16))
          (λ x. omega arith),
      rest,
      ten,
      one,
    ) refl
