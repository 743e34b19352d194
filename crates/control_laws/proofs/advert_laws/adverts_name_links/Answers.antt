use Rattle.control_laws.proofs.ControlAllAdverts.{behind_both}
use Rattle.control_laws.proofs.ControlNetLinks.{links_there}
use Rattle.control_laws.proofs.advert_laws.adverts_name_links.Goals as goal

pub returns : goal.returns
returns c = behind_both _ links_there
