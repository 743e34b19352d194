use Rattle.switch_core.proofs.SwitchLookupAnswers.{lookup_is}
use Rattle.switch_core.proofs.SwitchOnlyAnswers.{one_answer}
use Rattle.switch_core.proofs.laws.switch_core_lookup_laws.Goals as goal

pub returns : goal.returns
returns c = record { is = lookup_is; only = one_answer }
