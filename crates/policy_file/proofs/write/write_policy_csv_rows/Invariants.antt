use Rattle.std.proofs.Common.{◌++◌, ◌≡◌, string_bytes, take}
use Rattle.policy_file.specs.Exports.{policy_file_rows_text}
use Rattle.policy_file.proofs.write.write_policy_csv_rows.Given as goal

abbrev pub invariant-loop-row : goal.invariant-loop-row
invariant-loop-row g l = string_bytes l.text
    ≡ string_bytes l.fn.text ++ policy_file_rows_text g.R.PolicyFileRecord.fields (take l.row-index l.rows)
