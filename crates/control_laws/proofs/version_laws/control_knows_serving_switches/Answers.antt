use Rattle.control_laws.proofs.ControlPieceCauses.{always}
use Rattle.control_laws.proofs.ControlSwitchOpenings.{caused_known, serving_known}
use Rattle.control_laws.proofs.version_laws.control_knows_serving_switches.Goals as goal

pub returns : goal.returns
returns c = always _
    (λ setting journal have. serving_known journal (caused_known setting journal have))
