use Rattle.control_laws.proofs.ControlPieceCauses.{always}
use Rattle.control_laws.proofs.ControlPlannedTables.{versions_few}
use Rattle.control_laws.proofs.ControlPieceKinds.{piece_few}
use Rattle.control_laws.proofs.advert_laws.steps_send_few_control_messages.Goals as goal

pub returns : goal.returns
returns c = always _ (λ setting journal have net row step. piece_few setting net journal
    (versions_few setting journal have) row step)
