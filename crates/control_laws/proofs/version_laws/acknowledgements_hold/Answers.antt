use Rattle.control_laws.proofs.ControlPieceCauses.{always}
use Rattle.control_laws.proofs.ControlStampingSwitches.{acks_held}
use Rattle.control_laws.proofs.version_laws.acknowledgements_hold.Goals as goal

pub returns : goal.returns
returns c = always _ acks_held
