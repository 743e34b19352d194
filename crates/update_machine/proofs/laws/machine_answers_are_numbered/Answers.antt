use Rattle.update_machine.proofs.JournalItemNumbers.{begun_is_numbered}
use Rattle.update_machine.proofs.laws.machine_answers_are_numbered.Goals as goal

pub returns : goal.returns
returns c = begun_is_numbered
