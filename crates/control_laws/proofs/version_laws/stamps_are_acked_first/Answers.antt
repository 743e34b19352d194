use Rattle.control_laws.proofs.ControlPieceCauses.{always}
use Rattle.control_laws.proofs.ControlMarkLaws.{acked_first}
use Rattle.control_laws.proofs.version_laws.stamps_are_acked_first.Goals as goal

pub returns : goal.returns
returns c = always _ acked_first
