use Rattle.control_laws.proofs.ControlPieceCauses.{always}
use Rattle.control_laws.proofs.ControlPlannedTables.{tables_planned}
use Rattle.control_laws.proofs.version_laws.control_tables_are_planned.Goals as goal

pub returns : goal.returns
returns c = always _ tables_planned
