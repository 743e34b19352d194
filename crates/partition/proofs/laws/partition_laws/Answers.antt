use Rattle.partition.proofs.EndLemmas.{partitions_ended}
use Rattle.partition.proofs.PartLemmas.{partitions_decide, partitions_sound}
use Rattle.partition.proofs.laws.partition_laws.Goals as goal

pub returns : goal.returns
returns c = record {
  decide = partitions_decide;
  sound = partitions_sound;
  ended = partitions_ended;
}
