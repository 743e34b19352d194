-- The lines of rows, one more at a time.
use Rattle.std.proofs.Common.{[], ◌++◌, ◌+◌, ◌<◌, ◌∙◌, ◌∷◌, ◌≡◌, List, ap, arith, flat_map, get_or, length, length-take, take, ℕ}
use Rattle.base.proofs.Exports.{common_steps, enumerate_from, enumerate_push, flat_map-append, take_at_read}
use Rattle.net_file.specs.declared.net.Net.{Net}
use Rattle.switch_table.specs.declared.tables.PartRow.{PartRow}
use Rattle.show_text.specs.Text.{shown_table_row_line}

-- of the first rows, one more
pub rows_more : (net : Net) (rows : List PartRow) (i : ℕ) (row : PartRow) → i < length rows
    → row ≡ get_or rows i row → flat_map (shown_table_row_line net) (enumerate_from 0 (take (i + 1) rows))
    ≡ flat_map (shown_table_row_line net) (enumerate_from 0 (take i rows)) ++ shown_table_row_line net (i, row)
rows_more net rows i row within read =
    let front = take i rows in
    let count : 0 + length front ≡ i = grind (arith, length-take i rows) in
    let next : take (i + 1) rows ≡ front ++ row ∷ [] =
    grind (arith, (take_at_read rows i row within).1, read) in
    let lines = enumerate_from 0 front in
    ap (λ l. flat_map (shown_table_row_line net) (enumerate_from 0 l)) next
    ∙ ap (flat_map (shown_table_row_line net)) (enumerate_push 0 front row)
    ∙ flat_map-append (shown_table_row_line net) lines ((0 + length front, row) ∷ [])
    ∙ ap (λ k. flat_map (shown_table_row_line net) lines ++ (shown_table_row_line net (k, row) ++ [])) count
    ∙ grind (arith, common_steps)
