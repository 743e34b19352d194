-- The fields of an edit, one by one.
use Rattle.std.proofs.Common.{[], ◌&&◌, ◌∷◌, ◌≡◌, ◌≢◌, Err, List, Ok, arith, bytes_eq, codes, cond, drop, length, refl, ℕ}
use Rattle.csv.specs.Records.{field_at}
use Rattle.csv_records.specs.Texts.{csv_field_or_empty, is_csv_heading}
use Rattle.five_tuple.specs.Exports.{tuple_number_up_to}
use Rattle.policy_rules.specs.declared.amendment.Edit.TheVariants.{Remove, Add}
use Rattle.policy_file.specs.Exports.{policy_file_change_heading, csv_policy_edit_read, policy_file_read_as, policy_file_heading, csv_policy_removal_read, csv_policy_row_read, with_policy_file_field}
use Rattle.policy_file.specs.declared.error.PolicyRefusal.TheVariants as why

pub is_heading-change : (fields : List (List ℕ)) → is_csv_heading policy_file_change_heading fields
    ≡ (bytes_eq (csv_field_or_empty fields 0) (codes "op") && is_csv_heading policy_file_heading (drop 1 fields))
unfolding field_at
is_heading-change [] = refl
is_heading-change (op ∷ fields) = refl

pub csv_policy_edit_read-by : (fields : List (List ℕ)) → csv_policy_edit_read fields
    ≡ cond (bytes_eq (csv_field_or_empty fields 0) (codes "remove")) (csv_policy_removal_read (drop 1 fields))
    (cond (bytes_eq (csv_field_or_empty fields 0) (codes "add")) (policy_file_read_as Add (csv_policy_row_read (drop 1 fields)))
    (Err why.Op))
unfolding field_at
csv_policy_edit_read-by [] = refl
csv_policy_edit_read-by (op ∷ fields) = refl

pub csv_policy_removal_read-two : (fields : List (List ℕ)) → length fields ≡ 2
    → csv_policy_removal_read (drop 1 fields) ≡ with_policy_file_field (tuple_number_up_to 4294967295 (csv_field_or_empty fields 1))
    why.Priority (λ priority. Ok (Remove priority))
unfolding field_at
csv_policy_removal_read-two (op ∷ priority ∷ []) two = refl
csv_policy_removal_read-two _ two = absurd (omega arith)

pub csv_policy_removal_read-other : (fields : List (List ℕ)) → length fields ≢ 2
    → csv_policy_removal_read (drop 1 fields) ≡ Err why.Width
csv_policy_removal_read-other [] other = refl
csv_policy_removal_read-other (op ∷ []) other = refl
csv_policy_removal_read-other (op ∷ priority ∷ []) other = absurd (other refl)
csv_policy_removal_read-other (op ∷ priority ∷ next ∷ fields) other = refl

pub ruleset edits = (is_heading-change, csv_policy_edit_read-by, csv_policy_removal_read-two, csv_policy_removal_read-other)
