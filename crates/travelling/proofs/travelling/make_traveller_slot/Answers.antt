use Rattle.std.proofs.Common.{arith}
use Rattle.travelling.proofs.TravellingTable.{pushed_same}
use Rattle.travelling.proofs.travelling.make_traveller_slot.Goals as goal

pub loop-slots-preserved : goal.loop-slots-preserved
loop-slots-preserved c = record { few = grind (arith); same = grind (arith, pushed_same) }
