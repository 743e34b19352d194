use Rattle.control_laws.proofs.ControlAllAdverts.{behind_both}
use Rattle.control_laws.proofs.ControlOwnAdverts.{own_newest}
use Rattle.control_laws.proofs.advert_laws.own_adverts_are_newest.Goals as goal

pub returns : goal.returns
returns c = behind_both _ own_newest
