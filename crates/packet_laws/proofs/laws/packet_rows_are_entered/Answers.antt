use Rattle.packet_laws.proofs.PacketRows.{play_entered}
use Rattle.packet_laws.proofs.laws.packet_rows_are_entered.Goals as goal

pub returns : goal.returns
returns c = play_entered
