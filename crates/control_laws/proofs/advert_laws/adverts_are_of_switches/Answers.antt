use Rattle.control_laws.proofs.ControlAllAdverts.{behind_both}
use Rattle.control_laws.proofs.ControlNetLinks.{of_switches}
use Rattle.control_laws.proofs.advert_laws.adverts_are_of_switches.Goals as goal

pub returns : goal.returns
returns c = behind_both _ of_switches
