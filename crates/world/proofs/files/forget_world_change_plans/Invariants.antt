use Rattle.world.proofs.WorldKeptFiles.{AreForgotten}
use Rattle.world.proofs.files.forget_world_change_plans.Given as goal

-- what became of changes is forgotten so far
abbrev pub invariant-loop-place : goal.invariant-loop-place
invariant-loop-place l = AreForgotten l.files l.place l.initial.compiled.items l.compiled.items
