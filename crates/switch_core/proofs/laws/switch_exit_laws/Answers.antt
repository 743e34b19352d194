use Rattle.switch_core.proofs.SwitchLeavings.{next_dropped, next_exit, next_no_owner, next_out}
use Rattle.switch_core.proofs.SwitchOnlyAnswers.{one_way_on}
use Rattle.switch_core.proofs.laws.switch_exit_laws.Goals as goal

pub returns : goal.returns
returns c = record {
  is = λ s site packet action. record {
    dropped = next_dropped s site packet action;
    out = next_out s site packet action;
    exit = next_exit s site packet action;
    no_owner = next_no_owner s site packet action;
  };
  only = one_way_on;
}
