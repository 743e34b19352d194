use Rattle.switch_core.proofs.SwitchArrivals.{entry_is}
use Rattle.switch_core.proofs.SwitchOnlyAnswers.{one_entry}
use Rattle.switch_core.proofs.laws.switch_core_enter_laws.Goals as goal

pub returns : goal.returns
returns c = record { is = entry_is; only = one_entry }
