use Rattle.packet_laws.proofs.PacketDrainHops.{drain_ends, drain_falls, drain_short, reached_ready}
use Rattle.packet_laws.proofs.laws.packet_drains_end.Goals as goal

pub returns : goal.returns
returns c = record {
  fewer = λ setting journal row i is reached.
      drain_falls setting journal row i is (reached_ready setting journal reached is);
  ends = λ setting journal row is reached.
      drain_ends setting journal row is (reached_ready setting journal reached is);
  short = λ setting journal row steps is reached.
      drain_short setting journal row steps is (reached_ready setting journal reached is);
}
