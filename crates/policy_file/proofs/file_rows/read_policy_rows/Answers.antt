use Rattle.std.proofs.Common.{◌∙◌, ap, sym}
use Rattle.csv.specs.Records.{fields_of}
use Rattle.policy_file.specs.Exports.{policy_file_rows_under_heading}
use Rattle.policy_file.proofs.PolicyFileRows.{under_heading}
use Rattle.policy_file.proofs.file_rows.read_policy_rows.Goals as goal

pub returns-clause-read : goal.returns-clause-read
returns-clause-read g c = let format = g.R.FileRow.format in record {
  records = c.read_next.new.self;
  under = ap (policy_file_rows_under_heading format) (sym c.new-records.ensures)
      ∙ under_heading format c.new-records.result c.read_next.new.self
      (fields_of c.read_next.new.fields) c.in_ok-read_next.field-0 c.if-not-branch.false
      c.in_ok-read_next.ensures.takes (sym c.is_heading.ensures ∙ c.if-not-is_heading.false);
  read = c.in_ok-read_policy_row_records.ensures.read;
}

pub returns-clause-few : goal.returns-clause-few
returns-clause-few g c = c.in_ok-read_policy_row_records.ensures.read.few
