use Rattle.std.proofs.Common.{◌≡◌}
use Rattle.schedule.specs.Case.{load_case_rows_drawn}
use Rattle.schedule.proofs.case_policies.draw_rows.Given as goal

abbrev pub invariant-loop-k : goal.invariant-loop-k
invariant-loop-k l = record {
  rows : l.rows.items ≡ (load_case_rows_drawn l.k l.initial.draws.state).0;
  state : l.draws.state ≡ (load_case_rows_drawn l.k l.initial.draws.state).1;
}
