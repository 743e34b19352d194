-- Arrays that begin with a list and are 0 after it.
use Rattle.std.specs.Prelude.{◌++◌, ◌-◌, ◌≡◌, ◌≤◌, List, drop, length, replicate, take, ℕ}
use Rattle.std.proofs.Common.{◌∙◌, ap, arith, length-take, sym, take-append-drop}

-- an array of `most` places: the list, and then zeros
abbrev pub zero_filled_list : ℕ → List ℕ → List ℕ
zero_filled_list most xs = xs ++ replicate (most - length xs) 0

-- an array that is 0 from place `len` on is its first `len` places, and then zeros
pub filled-take : (most len : ℕ) (places : List ℕ) → length places ≡ most → len ≤ most
    → drop len places ≡ replicate (most - len) 0
    → (length (take len places) ≡ len) × (zero_filled_list most (take len places) ≡ places)
filled-take most len places all few rest =
    let held : length (take len places) ≡ len = omega (arith, length-take len places, all, few) in
    (held, rw held (ap (λ r. take len places ++ r) (sym rest) ∙ take-append-drop len places))
