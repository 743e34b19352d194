use Rattle.control_laws.proofs.ControlPieceCauses.{always}
use Rattle.control_laws.proofs.ControlCurrentVersions.{caused_numbered}
use Rattle.control_laws.proofs.version_laws.versions_are_numbered.Goals as goal

pub returns : goal.returns
returns c = always _ caused_numbered
