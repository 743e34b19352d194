use Rattle.control_laws.proofs.ControlPieceCauses.{always}
use Rattle.control_laws.proofs.ControlMarksAtEnds.{rises_rightly}
use Rattle.control_laws.proofs.version_laws.control_current_rises_rightly.Goals as goal

pub returns : goal.returns
returns c = always _ rises_rightly
