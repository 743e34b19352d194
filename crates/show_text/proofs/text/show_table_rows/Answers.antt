use Rattle.std.proofs.Common.{◌++◌, ◌∙◌, ap, append_assoc, flat_map, sym, take}
use Rattle.base.proofs.Exports.{enumerate_from}
use Rattle.show_text.specs.Text.{shown_table_row_line}
use Rattle.show_text.proofs.PlanTextRows.{rows_more}
use Rattle.show_text.proofs.text.show_table_rows.Goals as goal

pub loop-number-preserved : goal.loop-number-preserved
loop-number-preserved c =
    let net = c.args.net.now in
    let rows = c.args.rows.now in
    let i = c.loop-number.number in
    let row = c.index-rows-number.result in
    let lines = flat_map (shown_table_row_line net) (enumerate_from 0 (take i rows)) in
    let text = c.args.text.now.items in
    c.in_ok-extend_from_slice.ensures.items
    ∙ ap (λ b. c.loop-number.text.items ++ b) (c.bytes.ensures.held ∙ c.show_table_row_line.ensures)
    ∙ ap (λ b. b ++ shown_table_row_line net (i, row)) c.loop-number.invariant
    ∙ append_assoc text lines (shown_table_row_line net (i, row))
    ∙ ap (λ t. text ++ t) (sym
    (rows_more net rows i row c.loop-number-test.true c.index-rows-number.is))
