-- The words of a list of what a change touches, as it is stored.
use Rattle.std.specs.Prelude.{List}
use Rattle.ternary.specs.Exports.{WordValue}
use Rattle.switch_table.specs.declared.touched.Listed.{Listed}
use Rattle.switch_table.specs.declared.touched.Listed.TheVariants.{Words, All}

abbrev pub switch_table_touched_list_words : Listed → List WordValue
switch_table_touched_list_words (Words words) = words.items
switch_table_touched_list_words (All any) = any
