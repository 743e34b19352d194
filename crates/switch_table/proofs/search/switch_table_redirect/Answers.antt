use Rattle.std.proofs.Common.{[], ◌∙◌, ◌≡◌, Some, ap, find, position, sym, unwrap_or}
use Rattle.base.proofs.Exports.{option_map_or}
use Rattle.ternary.specs.Exports.{holds}
use Rattle.switch_table.specs.Exports.{switch_table_part_row_has}
use Rattle.switch_table.specs.declared.search.Found.TheVariants.{Redirect}
use Rattle.switch_table.specs.declared.tables.PartRow.{PartRow}
use Rattle.switch_table.proofs.SwitchTableLemmas.{row_there, row_at}
use Rattle.switch_table.proofs.search.switch_table_redirect.Goals as goal

pub unwrap-place-requires : goal.unwrap-place-requires
unwrap-place-requires c = rw (c.switch_part_row_place.ensures, c.number.ensures.number)
    (row_there c.args.header.now c.args.rows.now c.requires.one)

pub returns : goal.returns
returns c =
    let header = c.args.header.now in
    let rows = c.args.rows.now in
    let place = c.unwrap-place.result in
    let at : position (switch_table_part_row_has header) rows ≡ Some place =
    ap (λ n. position (λ (row : PartRow). holds row.region n) rows)
    (sym c.number.ensures.number) ∙ sym c.switch_part_row_place.ensures ∙ c.unwrap-place.ensures in
    let targets = option_map_or (λ (r : PartRow). r.targets) (find (switch_table_part_row_has header) rows) [] in
    sym (ap (λ p. Redirect (unwrap_or p 0) targets) at ∙ ap (Redirect place)
    ((row_at header rows place c.index-rows-place.result at).targets c.index-rows-place.result))
