use Rattle.switch_core.proofs.SwitchArrivals.{arrive_anew, arrive_held, arrive_out}
use Rattle.switch_core.proofs.SwitchOnlyAnswers.{one_arrival}
use Rattle.switch_core.proofs.laws.switch_core_arrive_laws.Goals as goal

pub returns : goal.returns
returns c = record {
  is = λ s site t. record {
    out = arrive_out s site t;
    decided = arrive_held s site t;
    anew = arrive_anew s site t;
  };
  only = one_arrival;
}
