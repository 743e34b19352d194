use Rattle.std.proofs.Common.{◌≡◌, map}
use Rattle.base.proofs.Exports.{range_with_len}
use Rattle.schedule.specs.Case.{load_case_switch_row}
use Rattle.schedule.proofs.case_net.schedule_load_case_ring.Given as goal

abbrev pub invariant-loop-i : goal.invariant-loop-i
invariant-loop-i l = l.rows.items ≡ map load_case_switch_row (range_with_len 0 l.i)
