use Rattle.std.proofs.Common.{◌++◌, ◌∙◌, ap, append_assoc, arith, string_bytes, sym, take, take_all}
use Rattle.policy_file.specs.Exports.{policy_file_fields_line, policy_file_rows_text}
use Rattle.policy_file.proofs.PolicyFileLines.{rows_text-more}
use Rattle.policy_file.proofs.write.write_policy_csv_rows.Goals as goal

pub loop-row-preserved : goal.loop-row-preserved
loop-row-preserved g c =
    let fields = g.R.PolicyFileRecord.fields in
    let rows = c.args.rows.now in
    let i = c.loop-row.row-index in
    let row = c.row-item.result in
    let old = string_bytes c.args.text.now in
    c.in_ok-write.ensures ∙ ap (λ text. text ++ policy_file_fields_line (fields row)) c.loop-row.invariant
    ∙ append_assoc old (policy_file_rows_text fields (take i rows)) (policy_file_fields_line (fields row))
    ∙ ap (λ last. old ++ (policy_file_rows_text fields (take i rows) ++ policy_file_fields_line (fields last)))
    c.row-item.is ∙ ap (λ text. old ++ text)
    (sym (rows_text-more fields rows i row c.loop-row-test.true))

pub returns : goal.returns
returns g c = cc (c.loop-row.invariant, take_all c.loop-row.row-index c.args.rows.now (omega arith))
