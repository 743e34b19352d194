use Rattle.std.proofs.Common.{◌++◌, ◌≡◌}
use Rattle.schedule.specs.Case.{load_case_groups_from}
use Rattle.schedule.proofs.case_events.push_load_case_groups.Given as goal

abbrev pub invariant-loop-k : goal.invariant-loop-k
invariant-loop-k l = record {
  events : l.events.items ≡ l.initial.events.items ++ (load_case_groups_from l._k l.initial.draws.state).0;
  state : l.draws.state ≡ (load_case_groups_from l._k l.initial.draws.state).1;
}
