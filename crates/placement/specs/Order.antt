-- Numbers in a given order: by a test that says which of two comes first.
use Rattle.std.specs.Prelude.{[], if◌then◌else◌, ◌∷◌, Bool, List, ℕ}

-- the number inserted at its place into numbers in order
abbrev pub with_placement_key_inserted : (ℕ → ℕ → Bool) → ℕ → List ℕ → List ℕ
with_placement_key_inserted stands_before x [] = x ∷ []
with_placement_key_inserted stands_before x (y ∷ ys) =
    if stands_before y x then y ∷ with_placement_key_inserted stands_before x ys else x ∷ y ∷ ys

-- the numbers in order
unfoldable pub in_placement_order : (ℕ → ℕ → Bool) → List ℕ → List ℕ
in_placement_order stands_before [] = []
in_placement_order stands_before (x ∷ xs) = with_placement_key_inserted stands_before x (in_placement_order stands_before xs)
