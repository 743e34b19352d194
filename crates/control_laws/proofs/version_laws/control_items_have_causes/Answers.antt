use Rattle.control_laws.proofs.ControlPieceCauses.{always}
use Rattle.control_laws.proofs.version_laws.control_items_have_causes.Goals as goal

pub returns : goal.returns
returns c = always _ (λ setting journal have. have)
