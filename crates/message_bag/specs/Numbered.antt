-- Items that are numbered from 1 in the order in which they came.
use Rattle.std.specs.Prelude.{[], ◌++◌, ◌+◌, ◌∷◌, ◌≡◌, IfOk, List, None, OnErr, OnOk, Option, Result, length, set, slice_get, suc, zero, ℕ}
use Rattle.base.specs.Exports.{option_map_or}

-- the item of a number
abbrev pub bag_item_numbered : {X : Type 0} → List X → ℕ → Option X
bag_item_numbered xs zero = None
bag_item_numbered xs (suc place) = slice_get xs place

-- the items with that of a number changed, if there is one
abbrev pub bag_with_changed : {X : Type 0} → (X → X) → List X → ℕ → List X
bag_with_changed change xs zero = xs
bag_with_changed change xs (suc place) =
    option_map_or (λ x. set xs place (change x)) (slice_get xs place) xs

-- the item is the last one now, under the number that the call returned; after an error nothing
-- has changed
pub record HasPosted {X E : Type 0} (result : Result ℕ E) (x : X) (old new : List X) : Type 0 where
  pub number : IfOk result (λ number. number ≡ length old + 1)
  pub posted : OnOk result (new ≡ old ++ x ∷ [])
  pub unchanged : OnErr result (new ≡ old)
