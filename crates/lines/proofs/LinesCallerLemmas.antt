-- What proofs above cite: of pieces put at the end of a line, and of tables of pairs of digits.
use Rattle.std.proofs.Common.{[], ◌&&◌, ◌*◌, ◌++◌, ◌+◌, ◌-◌, ◌<◌, ◌∙◌, ◌∷◌, ◌≡◌, ◌≤◌, Bool, List, T, ap, append-nil, append_assoc, arith, eq-zero-or-pos, eqb, eqb→eq, get_or, inl, inr, length, refl, suc, take, take_all, true, zero, ℕ}
use Rattle.lines.specs.Pushes.{line_with}
use lib.Ieee.Fits.{and_l, and_r}

take_front : (n : ℕ) (xs ys : List ℕ) → take n (take n xs ++ ys) ≡ take n (xs ++ ys)
take_front zero xs ys = refl
take_front (suc n) [] ys = refl
take_front (suc n) (x ∷ xs) ys = ap (λ zs. x ∷ zs) (take_front n xs ys)

-- two pieces put one after the other are one
pub pushed_append : (line a b : List ℕ) → line_with (line_with line a) b ≡ line_with line (a ++ b)
unfolding line_with
pushed_append line a b = take_front 2048 (line ++ a) b ∙ ap (take 2048) (append_assoc line a b)

-- a text that fits is held whole
pub pushed_whole : (text : List ℕ) → length text ≤ 2048 → line_with [] text ≡ text
unfolding line_with
pushed_whole text fits = take_all 2048 text fits

-- a line with nothing more at its end
pub pushed_nothing : (line : List ℕ) → length line ≤ 2048 → line_with line [] ≡ line
unfolding line_with
pushed_nothing line fits = ap (take 2048) (append-nil line) ∙ take_all 2048 line fits

-- ---- tables of pairs

-- whether a table has these two bytes for each number below n, from twice the number on
abbrev pub are_pairs : List ℕ → (ℕ → ℕ) → (ℕ → ℕ) → ℕ → Bool
are_pairs table first second zero = true
are_pairs table first second (suc n) = (eqb (get_or table (n * 2) 0) (first n)
    && eqb (get_or table (n * 2 + 1) 0) (second n)) && are_pairs table first second n

pub pair_at : (table : List ℕ) (first second : ℕ → ℕ) (n p : ℕ) → T (are_pairs table first second n)
    → p < n → (get_or table (p * 2) 0 ≡ first p) × (get_or table (p * 2 + 1) 0 ≡ second p)
pair_at table first second zero p all within = absurd (omega arith)
pair_at table first second (suc n) p all within = elim (eq-zero-or-pos (n - p)) [
  | inl last ↦ let same : p ≡ n = omega arith in
      let both = and_l _ (are_pairs table first second n) all in
      rw same (eqb→eq _ _ (and_l _ _ both), eqb→eq _ _ (and_r _ _ both))
  | inr earlier ↦ pair_at table first second n p (and_r _ (are_pairs table first second n) all)
      (omega arith)
]
