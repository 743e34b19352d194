use Rattle.control_laws.proofs.ControlPieceCauses.{always}
use Rattle.control_laws.proofs.ControlMarksAtEnds.{behind}
use Rattle.control_laws.proofs.version_laws.control_retired_stays_behind.Goals as goal

pub returns : goal.returns
returns c = always _ behind
