use Rattle.control_laws.proofs.ControlPieceCauses.{always}
use Rattle.control_laws.proofs.ControlMarkLaws.{acknowledged}
use Rattle.control_laws.proofs.version_laws.members_have_acknowledged.Goals as goal

pub returns : goal.returns
returns c = always _ acknowledged
