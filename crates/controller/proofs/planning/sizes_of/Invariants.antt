use Rattle.std.proofs.Common.{◌≡◌, take}
use Rattle.partition.specs.Plan.{partition_sizes_of}
use Rattle.controller.proofs.planning.sizes_of.Given as goal

abbrev pub invariant-loop-part : goal.invariant-loop-part
invariant-loop-part l = l.sizes.items ≡ partition_sizes_of (take l.part-index l.parts)
