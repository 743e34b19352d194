use Rattle.packet_laws.proofs.PacketHistories.{kept_behind}
use Rattle.packet_laws.proofs.packet_cause_laws.packet_steps_are_kept.Goals as goal

pub returns : goal.returns
returns c = kept_behind c.packets_travel.ensures c.marks_settle.ensures
