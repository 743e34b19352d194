use Rattle.std.proofs.Common.{◌≡◌, map}
use Rattle.base.proofs.Exports.{range_with_len}
use Rattle.switch_table.specs.Exports.{tables_of}
use Rattle.controller.proofs.version.make_switch_tables.Given as goal

-- the tables of the switches so far
abbrev pub invariant-loop-s : goal.invariant-loop-s
invariant-loop-s l = l.made.items ≡ map (tables_of l.plan.hosted l.version) (range_with_len 0 l.s)
