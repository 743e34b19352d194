-- The definitions of this crate that others use, passed on from the files that define them.
pub use Rattle.policy_file.specs.Changes.{policy_file_change_heading, policy_file_change_rows, csv_policy_edit_read, policy_file_length, policy_file_has_change_heading, policy_file_read_as, csv_policy_removal_read}
unfoldable pub use Rattle.policy_file.specs.Changes.{csv_change_of, is_policy_file_change_text, policy_file_of}
pub use Rattle.policy_file.specs.Ports.{policy_edit_fits_ports, first_in_policy_file, policy_file_first_row_without_port, action_names_only_ports}
pub use Rattle.policy_file.specs.Printing.{policy_file_change_text, policy_file_edit_fields, policy_file_fields_line, policy_file_text, policy_file_row_fields, policy_file_rows_text}
pub use Rattle.policy_file.specs.Reading.{IsPolicyReadUpTo, PolicyFileRowFormat, PolicyFileRecordsStateEach, policy_file_first_row_refused, policy_file_refusal_code, policy_file_heading, policy_file_rows, policy_file_row_refusal_after, policy_file_row_refusal_at, csv_policy_row_read, policy_file_stated_rows, csv_policy_rows_stated, policy_file_rows_under_heading, with_policy_file_field}
unfoldable pub use Rattle.policy_file.specs.Reading.{policy_file_policy_of}
