use Rattle.update_machine.proofs.JournalKnownLinks.{start_laws}
use Rattle.update_machine.proofs.laws.journals_start.Goals as goal

pub returns : goal.returns
returns c = start_laws
