use Rattle.control_laws.proofs.ControlMarksAtEnds.{settled_at_ends}
use Rattle.control_laws.proofs.version_laws.marks_settle.Goals as goal

pub returns : goal.returns
returns c = settled_at_ends
