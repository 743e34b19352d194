-- The rows so far, one value further.
use Rattle.std.proofs.Common.{[], ◌++◌, ◌+◌, ◌∷◌, ◌≡◌, List, Ok, Result, length, refl, ℕ}
use Rattle.toml.specs.Data.{Data}
use Rattle.net_file.specs.declared.error.NetRefusal.{NetRefusal}
use Rattle.net_file.specs.Exports.{net_rows_read, with_toml_value}
use Rattle.base.specs.Exports.{IsCallRefusal, refusal_in_row}
use Rattle.base.specs.declared.error.Failure.{Failure}
use Rattle.base.specs.declared.error.Failure.TheVariants.{Refused, NoMemory}
use Rattle.base.specs.declared.row.InRow.{InRow}

-- the next value states a row
pub next_row : {X : Type 0} (base : ℕ) (read : List X → Data → Result X NetRefusal)
    (earlier : List X) (d : Data) (ds : List Data) (row : X) → read earlier d ≡ Ok row
    → net_rows_read base read earlier (d ∷ ds) ≡ net_rows_read base read (earlier ++ row ∷ []) ds
next_row base read earlier d ds row e = rw e refl

-- a refusal ends what follows it
pub refused_with : {X Y : Type 0} (read : Result X (InRow NetRefusal)) (next : X → Result Y (InRow NetRefusal))
    (e : Failure (InRow NetRefusal)) → IsCallRefusal read e → IsCallRefusal (with_toml_value read next) e
refused_with read next (Refused refusal) h = rw h refl
refused_with read next NoMemory h = tt

-- the next value is refused
pub refused_row : {X : Type 0} (base : ℕ) (read : List X → Data → Result X NetRefusal)
    (earlier : List X) (d : Data) (ds : List Data) (row : ℕ) (e : Failure (InRow NetRefusal))
    → base + (length earlier + 1) ≡ row
    → IsCallRefusal (refusal_in_row row (read earlier d)) e → IsCallRefusal (net_rows_read base read earlier (d ∷ ds)) e
refused_row base read earlier d ds row e same h =
    refused_with (refusal_in_row (base + (length earlier + 1)) (read earlier d))
    (λ next. net_rows_read base read (earlier ++ next ∷ []) ds) e (rw same h)

pub refused_same : {X : Type 0} (a b : Result X (InRow NetRefusal)) (e : Failure (InRow NetRefusal)) → a ≡ b → IsCallRefusal b e
    → IsCallRefusal a e
refused_same a b e same h = rw same h
