use Rattle.std.proofs.Common.{arith}
use Rattle.world.proofs.WorldKeptFiles.{kept_first}
use Rattle.world.proofs.files.Files.new.Goals as goal

pub invariant_of-result : goal.invariant_of-result
invariant_of-result c =
    kept_first c.args.net c.args.files.items c.args.plan c.loop-compiled.compiled.items
    c.requires.net c.requires.first c.requires.planned (omega arith) c.loop-compiled.invariant.same
