use Rattle.control_laws.proofs.ControlPieceCauses.{always}
use Rattle.control_laws.proofs.ControlSwitchOpenings.{caused_known}
use Rattle.control_laws.proofs.version_laws.boots_are_known.Goals as goal

pub returns : goal.returns
returns c = always _ (λ setting journal have. (caused_known setting journal have).boots)
