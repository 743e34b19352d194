use Rattle.std.proofs.Common.{◌++◌, ◌≡◌, flat_map, take}
use Rattle.base.proofs.Exports.{enumerate_from}
use Rattle.show_text.specs.Text.{shown_table_row_line}
use Rattle.show_text.proofs.text.show_table_rows.Given as goal

abbrev pub invariant-loop-number : goal.invariant-loop-number
invariant-loop-number l = l.text.items ≡ l.initial.text.items ++ flat_map
    (shown_table_row_line l.net) (enumerate_from 0 (take l.number l.rows))
