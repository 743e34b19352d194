use Rattle.control_laws.proofs.ControlPieceCauses.{always}
use Rattle.control_laws.proofs.ControlCurrentVersions.{installs_planned}
use Rattle.control_laws.proofs.version_laws.installs_are_planned.Goals as goal

pub returns : goal.returns
returns c = always _ installs_planned
