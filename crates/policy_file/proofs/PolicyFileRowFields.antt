-- The seven fields of a row, one by one.
use Rattle.std.proofs.Common.{[], ◌+◌, ◌∙◌, ◌∷◌, ◌≡◌, ◌≢◌, Bool, Err, List, ap, arith, bytes_eq, drop, false, length, length-drop, refl, suc, true, zero, ℕ}
use lib.Pointwise.{pointwise_long}
use Rattle.csv.specs.Records.{field_at}
use Rattle.csv_records.specs.Texts.{csv_field_or_empty, is_csv_heading}
use Rattle.policy_file.specs.Exports.{policy_file_heading, csv_policy_row_read}
use Rattle.policy_file.specs.declared.error.PolicyRefusal.TheVariants as why

abbrev pub seven_of : List (List ℕ) → List (List ℕ)
seven_of fields = csv_field_or_empty fields 0 ∷ csv_field_or_empty fields 1 ∷ csv_field_or_empty fields 2 ∷ csv_field_or_empty fields 3 ∷ csv_field_or_empty fields
    4 ∷ csv_field_or_empty fields 5 ∷ csv_field_or_empty fields 6 ∷ []

seven_fields : (fields : List (List ℕ)) → length fields ≡ 7 → fields ≡ seven_of fields
unfolding field_at
seven_fields (a ∷ b ∷ c ∷ d ∷ e ∷ f ∷ g ∷ []) seven = refl
seven_fields _ seven = absurd (omega arith)

-- a field past the first ones
field_past : (fields : List (List ℕ)) (from place : ℕ) → csv_field_or_empty (drop from fields) place ≡ csv_field_or_empty
    fields (from + place)
unfolding field_at
field_past fields zero place = ap (csv_field_or_empty fields) (omega arith)
field_past [] (suc from) place = refl
field_past (first ∷ fields) (suc from) place = field_past fields from place
    ∙ ap (csv_field_or_empty (first ∷ fields)) {x = suc (from + place)} {y = suc from + place} (omega arith)

-- from a place on
seven_from : (fields : List (List ℕ)) (from : ℕ) → length fields ≡ from + 7
    → drop from fields ≡ csv_field_or_empty fields from ∷ csv_field_or_empty fields (from + 1) ∷ csv_field_or_empty fields (from + 2)
    ∷ csv_field_or_empty fields (from + 3) ∷ csv_field_or_empty fields (from + 4) ∷ csv_field_or_empty fields (from + 5)
    ∷ csv_field_or_empty fields (from + 6) ∷ []
seven_from fields from seven =
    let here : csv_field_or_empty (drop from fields) 0 ≡ csv_field_or_empty fields from = field_past fields from 0
    ∙ ap (csv_field_or_empty fields) (omega arith) in
    seven_fields (drop from fields) (omega (arith, length-drop from fields))
    ∙ rw (
      here,
      field_past fields from 1,
      field_past fields from 2,
      field_past fields from 3,
      field_past fields from 4,
      field_past fields from 5,
      field_past fields from 6,
    ) refl

pub is_heading-seven : (fields : List (List ℕ)) (from : ℕ) → length fields ≡ from + 7
    → is_csv_heading policy_file_heading (drop from fields) ≡ is_csv_heading policy_file_heading
    (csv_field_or_empty fields from ∷ csv_field_or_empty fields (from + 1) ∷ csv_field_or_empty fields (from + 1 + 1) ∷ csv_field_or_empty fields
    (from + 3) ∷ csv_field_or_empty fields (from + 3 + 1) ∷ csv_field_or_empty fields (from + 5) ∷ csv_field_or_empty fields
    (from + 5 + 1) ∷ [])
is_heading-seven fields from seven =
    let two : from + 2 ≡ from + 1 + 1 = omega arith in
    let four : from + 4 ≡ from + 3 + 1 = omega arith in
    let six : from + 6 ≡ from + 5 + 1 = omega arith in
    ap (is_csv_heading policy_file_heading) (seven_from fields from seven
    ∙ λ i. csv_field_or_empty fields from ∷ csv_field_or_empty fields (from + 1) ∷ csv_field_or_empty fields (two i) ∷ csv_field_or_empty fields
    (from + 3) ∷ csv_field_or_empty fields (four i) ∷ csv_field_or_empty fields (from + 5) ∷ csv_field_or_empty fields (six i) ∷ [])

pub is_heading-other : (fields : List (List ℕ)) (from : ℕ) → length fields ≢ from + 7
    → is_csv_heading policy_file_heading (drop from fields) ≡ false
is_heading-other fields from other = by (is_csv_heading policy_file_heading (drop from fields)) refl where
  by : (is : Bool) → is_csv_heading policy_file_heading (drop from fields) ≡ is
      → is_csv_heading policy_file_heading (drop from fields) ≡ false
  by false e = e
  by true e = let seven = pointwise_long bytes_eq (drop from fields) policy_file_heading e in
      absurd (other (omega (arith, length-drop from fields, seven)))

pub row_of-seven : (fields : List (List ℕ)) (from : ℕ) → length fields ≡ from + 7
    → csv_policy_row_read (drop from fields) ≡ csv_policy_row_read
    (csv_field_or_empty fields from ∷ csv_field_or_empty fields (from + 1) ∷ csv_field_or_empty fields (from + 2) ∷ csv_field_or_empty fields
    (from + 3) ∷ csv_field_or_empty fields (from + 4) ∷ csv_field_or_empty fields (from + 5) ∷ csv_field_or_empty fields
    (from + 6) ∷ [])
row_of-seven fields from seven = ap csv_policy_row_read (seven_from fields from seven)

pub row_of-other : (fields : List (List ℕ)) (from : ℕ) → length fields ≢ from + 7
    → csv_policy_row_read (drop from fields) ≡ Err why.Width
row_of-other fields from other = no_seven (drop from fields)
    (λ seven. other (omega (arith, length-drop from fields)))
  where
    no_seven : (xs : List (List ℕ)) → length xs ≢ 7 → csv_policy_row_read xs ≡ Err why.Width
    no_seven (a ∷ b ∷ c ∷ d ∷ e ∷ f ∷ g ∷ []) other = absurd (other refl)
    no_seven _ other = refl

pub ruleset sevens = (is_heading-seven, is_heading-other, row_of-seven, row_of-other)
