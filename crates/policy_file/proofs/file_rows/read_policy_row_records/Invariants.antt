use Rattle.std.proofs.Common.{◌-◌, ◌≡◌, ◌≤◌, All, drop, length, take}
use Rattle.policy_file.specs.Exports.{PolicyFileRecordsStateEach}
use Rattle.policy_file.proofs.file_rows.read_policy_row_records.Given as goal

-- the rows so far are what the first records state, and the others are left
abbrev pub invariant-loop-records : goal.invariant-loop-records
invariant-loop-records g l = record {
  stated : PolicyFileRecordsStateEach g.R.FileRow.format (take (length l.rows.items) l.initial.records) l.rows.items;
  left : l.records ≡ drop (length l.rows.items) l.initial.records;
  within : length l.rows.items ≤ length l.initial.records;
  few : length l.rows.items ≤ 2000;
  small_ports : All g.R.FileRow.has_small_port l.rows.items;
}

abbrev pub decreases-loop-records : goal.decreases-loop-records
decreases-loop-records g l = 2000 - length l.rows.items
