use Rattle.control_laws.proofs.ControlPieceCauses.{always}
use Rattle.control_laws.proofs.ControlPlannedTables.{versions_planned}
use Rattle.control_laws.proofs.version_laws.versions_are_planned.Goals as goal

pub returns : goal.returns
returns c = always _ versions_planned
