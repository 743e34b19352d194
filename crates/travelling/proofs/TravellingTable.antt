-- The table of the packets on their way.
use Rattle.std.proofs.Common.{[], ◌++◌, ◌∷◌, ◌≡◌, None, refl, suc, zero, ℕ}
use Rattle.travelling.specs.Travelling.{TravellingFlights, flight}

-- an empty slot behind the others says nothing
pub pushed_same : (slots : TravellingFlights) (i : ℕ) → flight (slots ++ None ∷ []) i ≡ flight slots i
pushed_same [] zero = refl
pushed_same [] (suc i) = refl
pushed_same (slot ∷ slots) zero = refl
pushed_same (slot ∷ slots) (suc i) = pushed_same slots i
