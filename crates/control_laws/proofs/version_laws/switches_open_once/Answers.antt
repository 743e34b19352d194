use Rattle.control_laws.proofs.ControlPieceCauses.{always}
use Rattle.control_laws.proofs.ControlSwitchOpenings.{caused_known, one_opening}
use Rattle.control_laws.proofs.version_laws.switches_open_once.Goals as goal

pub returns : goal.returns
returns c = always _
    (λ setting journal have. one_opening journal (caused_known setting journal have).openings)
