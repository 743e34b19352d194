-- The records of a text, each the list of its fields.
use Rattle.std.specs.Prelude.{[], ◌∷◌, ◌≡◌, Bool, List, bytes_eq, false, true, unwrap_or, ℕ}
use Rattle.csv.specs.Reading.{default_config, records, strip_bom}
use Rattle.csv.specs.Records.{field_at}
use lib.Pointwise.{pointwise}

-- the records of a text are those that the crate `csv` defines, with its presets
abbrev pub csv_records_of : List ℕ → List (List (List ℕ))
csv_records_of text = records default_config (strip_bom text)

-- a read returned these fields, the first of the records left; or it found none, and none was left
abbrev pub TakesCsvRecord : List (List (List ℕ)) → Bool → List (List ℕ) → List (List (List ℕ)) → Type 0
TakesCsvRecord before true fields after = before ≡ fields ∷ after
TakesCsvRecord before false fields after = (before ≡ []) × (after ≡ [])

-- the field at this place, or an empty one if the record ends before it
abbrev pub csv_field_or_empty : List (List ℕ) → ℕ → List ℕ
csv_field_or_empty fields place = unwrap_or (field_at fields place) []

-- the record has these fields and no others, as a heading has
abbrev pub is_csv_heading : List (List ℕ) → List (List ℕ) → Bool
is_csv_heading heading fields = pointwise bytes_eq fields heading
