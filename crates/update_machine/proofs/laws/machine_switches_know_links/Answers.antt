use Rattle.update_machine.proofs.JournalKnownLinks.{known_link_laws}
use Rattle.update_machine.proofs.laws.machine_switches_know_links.Goals as goal

pub returns : goal.returns
returns c = known_link_laws
