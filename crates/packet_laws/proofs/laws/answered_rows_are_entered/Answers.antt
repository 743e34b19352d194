use Rattle.packet_laws.proofs.PacketRows.{answer_entered}
use Rattle.packet_laws.proofs.laws.answered_rows_are_entered.Goals as goal

pub returns : goal.returns
returns c = answer_entered
