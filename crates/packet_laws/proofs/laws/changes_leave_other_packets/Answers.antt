use Rattle.packet_laws.proofs.PacketStrongCauses.{changes_leave}
use Rattle.packet_laws.proofs.PacketsAtRest.{reached}
use Rattle.packet_laws.proofs.laws.changes_leave_other_packets.Goals as goal

pub returns : goal.returns
returns c = reached _ (changes_leave c.amendment_laws.ensures)
