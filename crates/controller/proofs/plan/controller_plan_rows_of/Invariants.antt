use Rattle.std.proofs.Common.{◌≡◌, map, take}
use Rattle.switch_table.specs.Exports.{switch_table_row_of_hosted}
use Rattle.controller.proofs.plan.controller_plan_rows_of.Given as goal

abbrev pub invariant-loop-part : goal.invariant-loop-part
invariant-loop-part l = l.rows.items ≡ map switch_table_row_of_hosted (take l.part-index l.hosted)
