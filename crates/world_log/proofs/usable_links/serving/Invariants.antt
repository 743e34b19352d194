use Rattle.world_log.proofs.LogRelinking.{ServeBelow}
use Rattle.world_log.proofs.usable_links.serving.Given as goal

-- those of the switches so far
abbrev pub invariant-loop-s : goal.invariant-loop-s
invariant-loop-s l = ServeBelow l.mask l.s l.switches
