use Rattle.std.proofs.Common.{◌≡◌, filter, map, take}
use Rattle.switch_table.specs.Exports.{switch_table_part_has_target, switch_table_part_of}
use Rattle.controller.proofs.tables.parts_of.Given as goal

abbrev pub invariant-loop-part : goal.invariant-loop-part
invariant-loop-part l = l.parts.items ≡ map switch_table_part_of
    (filter (switch_table_part_has_target l.s) (take l.part-index l.hosted))
