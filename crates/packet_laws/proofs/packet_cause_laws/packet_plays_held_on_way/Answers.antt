use Rattle.packet_laws.proofs.PacketHistories.{held_on_the_way}
use Rattle.packet_laws.proofs.packet_cause_laws.packet_plays_held_on_way.Goals as goal

pub returns : goal.returns
returns c = held_on_the_way c.packet_journals_hold_so_far.ensures c.packet_steps_are_kept.ensures
