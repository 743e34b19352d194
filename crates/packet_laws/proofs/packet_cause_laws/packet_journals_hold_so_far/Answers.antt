use Rattle.packet_laws.proofs.PacketHistories.{holds_so_far}
use Rattle.packet_laws.proofs.packet_cause_laws.packet_journals_hold_so_far.Goals as goal

pub returns : goal.returns
returns c = holds_so_far assumption
