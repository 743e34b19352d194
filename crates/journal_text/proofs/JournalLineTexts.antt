-- A text that a line holds, put at the end of another line.
use Rattle.std.proofs.Common.{[], ◌++◌, ◌∷◌, ◌≡◌, ◌≤◌, List, ap, arith, refl, suc, take, take-take, zero, ℕ}
use Rattle.lines.specs.Pushes.{line_with}

take_back : (n m : ℕ) (xs ys : List ℕ) → n ≤ m → take n (xs ++ take m ys) ≡ take n (xs ++ ys)
take_back zero m xs ys within = refl
take_back (suc n) m [] ys within = take-take (suc n) m ys within
take_back (suc n) m (x ∷ xs) ys within = ap (λ zs. x ∷ zs) (take_back n m xs ys (omega arith))

pub held_text : (line text : List ℕ) → line_with line (line_with [] text) ≡ line_with line text
unfolding line_with
held_text line text = take_back 2048 2048 line text (omega arith)
