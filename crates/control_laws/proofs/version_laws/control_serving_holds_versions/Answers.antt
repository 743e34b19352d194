use Rattle.control_laws.proofs.ControlPieceCauses.{always}
use Rattle.control_laws.proofs.ControlMarkLaws.{serving_hold}
use Rattle.control_laws.proofs.version_laws.control_serving_holds_versions.Goals as goal

pub returns : goal.returns
returns c = always _ serving_hold
