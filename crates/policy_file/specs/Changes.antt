-- The change of a policy that a text states, as CSV records, and what a policy file states: a
-- policy or a change of one.
use Rattle.std.specs.Prelude.{[], if◌then◌else◌, ◌∷◌, Bool, Err, List, Ok, Result, bytes_eq, codes, false, length, ℕ}
use Rattle.base.specs.Exports.{result_map_both}
use Rattle.csv_records.specs.Texts.{is_csv_heading, csv_records_of}
use Rattle.five_tuple.specs.Exports.{tuple_number_up_to}
use Rattle.policy_rules.specs.Exports.{policy_edit_repeats}
use Rattle.policy_rules.specs.declared.amendment.Edit.{Edit}
use Rattle.policy_rules.specs.declared.amendment.Edit.TheVariants.{Remove, Add}
use Rattle.policy_rules.specs.declared.file.PolicyFile.{PolicyFile}
use Rattle.policy_rules.specs.declared.file.PolicyFile.TheVariants.{Whole, Change}
use Rattle.base.specs.declared.row.InRow.{InRow}
use Rattle.policy_file.specs.Reading.{PolicyFileRowFormat, policy_file_heading, policy_file_policy_of, csv_policy_row_read, csv_policy_rows_in, with_policy_file_field}
use Rattle.policy_file.specs.declared.error.PolicyRefusal.{PolicyRefusal}
use Rattle.policy_file.specs.declared.error.PolicyRefusal.TheVariants as why

-- what `make` makes of the value that was read, or the same refusal
abbrev pub policy_file_read_as : {X Y R : Type 0} → (X → Y) → Result X R → Result Y R
policy_file_read_as make read = result_map_both make (λ refusal. refusal) read

abbrev pub policy_file_change_heading : List (List ℕ)
policy_file_change_heading = codes "op" ∷ policy_file_heading

-- the edit that removes the row of a priority, which is the only field
abbrev pub csv_policy_removal_read : List (List ℕ) → Result Edit PolicyRefusal
csv_policy_removal_read (priority ∷ []) =
    with_policy_file_field (tuple_number_up_to 4294967295 priority) why.Priority (λ priority. Ok (Remove priority))
csv_policy_removal_read _ = Err why.Width

-- the edit that the fields state, or the refusal of the first field that can't be read
abbrev pub csv_policy_edit_read : List (List ℕ) → Result Edit PolicyRefusal
csv_policy_edit_read [] = Err why.Op
csv_policy_edit_read (op ∷ fields) =
    if bytes_eq op (codes "remove") then csv_policy_removal_read fields
    else if bytes_eq op (codes "add") then policy_file_read_as Add (csv_policy_row_read fields)
    else Err why.Op

-- no two edits of a change do the same to a row of the same priority
abbrev pub policy_file_change_rows : PolicyFileRowFormat Edit
policy_file_change_rows = record { heading = policy_file_change_heading; read = csv_policy_edit_read; repeats = policy_edit_repeats }

-- the change that a text states
unfoldable pub csv_change_of : List ℕ → Result (List Edit) (InRow PolicyRefusal)
csv_change_of bytes = csv_policy_rows_in policy_file_change_rows bytes

-- the first record is a change's heading
abbrev pub policy_file_has_change_heading : List (List (List ℕ)) → Bool
policy_file_has_change_heading [] = false
policy_file_has_change_heading (first ∷ records) = is_csv_heading policy_file_change_heading first

-- the text is that of a change, by its heading
unfoldable pub is_policy_file_change_text : List ℕ → Bool
is_policy_file_change_text bytes = policy_file_has_change_heading (csv_records_of bytes)

-- what a text states: a change, by its heading, otherwise a policy
unfoldable pub policy_file_of : List ℕ → Result PolicyFile (InRow PolicyRefusal)
policy_file_of bytes =
    if is_policy_file_change_text bytes then policy_file_read_as Change (csv_change_of bytes) else policy_file_read_as Whole (policy_file_policy_of bytes)

-- how many rows the file has under its heading
abbrev pub policy_file_length : PolicyFile → ℕ
policy_file_length (Whole rows) = length rows
policy_file_length (Change edits) = length edits
