use Rattle.switch_core.proofs.SwitchDecisions.{decided_on_arrival, decided_on_entry, decides_as_policy}
use Rattle.switch_core.proofs.laws.switch_decision_laws.Goals as goal

pub returns : goal.returns
returns c = record {
  on_entry = decided_on_entry;
  on_arrival = decided_on_arrival;
  as_policy = decides_as_policy;
}
