-- The text of a policy, and of a change, as it is printed.
use Rattle.std.specs.Prelude.{[], ◌++◌, ◌∷◌, List, codes, decimal, flat_map, ℕ}
use Rattle.base.specs.Exports.{join_with_byte}
use Rattle.five_tuple.specs.Exports.{address_prefix_text, proto_text, port_range_text}
use Rattle.policy_rules.specs.Exports.{policy_action_text}
use Rattle.policy_rules.specs.declared.amendment.Edit.{Edit}
use Rattle.policy_rules.specs.declared.amendment.Edit.TheVariants.{Remove, Add}
use Rattle.policy_rules.specs.declared.policy.Row.{Row}
use Rattle.policy_file.specs.Changes.{policy_file_change_heading}
use Rattle.policy_file.specs.Reading.{policy_file_heading}

-- a record's line: its fields joined by commas, and a line feed
abbrev pub policy_file_fields_line : List (List ℕ) → List ℕ
policy_file_fields_line fields = join_with_byte 44 fields ++ 10 ∷ []

-- the printed forms of a row's fields
abbrev pub policy_file_row_fields : Row → List (List ℕ)
policy_file_row_fields row =
    decimal row.priority ∷ address_prefix_text row.src ∷ address_prefix_text row.dst ∷ port_range_text row.sport
    ∷ port_range_text row.dport ∷ proto_text row.proto ∷ policy_action_text row.action ∷ []

-- the printed forms of an edit's fields
abbrev pub policy_file_edit_fields : Edit → List (List ℕ)
policy_file_edit_fields (Remove priority) = codes "remove" ∷ decimal priority ∷ []
policy_file_edit_fields (Add row) = codes "add" ∷ policy_file_row_fields row

-- the lines of rows, of any kind, by the printed forms of their fields
abbrev pub policy_file_rows_text : {X : Type 0} → (X → List (List ℕ)) → List X → List ℕ
policy_file_rows_text fields rows = flat_map (λ row. policy_file_fields_line (fields row)) rows

-- the heading's line, and then the rows'
abbrev pub policy_file_text : List Row → List ℕ
policy_file_text rows = policy_file_fields_line policy_file_heading ++ policy_file_rows_text policy_file_row_fields rows

-- the heading's line, and then the edits'
abbrev pub policy_file_change_text : List Edit → List ℕ
policy_file_change_text edits = policy_file_fields_line policy_file_change_heading ++ policy_file_rows_text policy_file_edit_fields edits
