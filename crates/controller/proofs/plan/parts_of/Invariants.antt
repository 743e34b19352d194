use Rattle.std.proofs.Common.{◌≡◌, map, take}
use Rattle.switch_table.specs.Exports.{switch_table_part_of}
use Rattle.controller.proofs.plan.parts_of.Given as goal

abbrev pub invariant-loop-part : goal.invariant-loop-part
invariant-loop-part l = l.parts.items ≡ map switch_table_part_of (take l.part-index l.hosted)
