use Rattle.control_laws.proofs.ControlPieceCauses.{always}
use Rattle.control_laws.proofs.ControlMarkLaws.{bounded}
use Rattle.control_laws.proofs.version_laws.marks_are_bounded.Goals as goal

pub returns : goal.returns
returns c = always _ bounded
