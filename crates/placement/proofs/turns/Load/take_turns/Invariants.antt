use Rattle.std.proofs.Common.{drop, take}
use Rattle.placement.specs.Placement.{placement_turn_rule}
use Rattle.placement.proofs.PlacementTurns.{Loaded}
use Rattle.placement.proofs.turns.Load.take_turns.Given as goal

abbrev pub invariant-loop-partition : goal.invariant-loop-partition
invariant-loop-partition l = Loaded (placement_turn_rule l.self l.keys l.sizes l.rooms l.backups) l.held.items
    l.loads.items l.placement.items (take l.partition-index l.partition-items)
    (drop l.partition-index l.partition-items)
