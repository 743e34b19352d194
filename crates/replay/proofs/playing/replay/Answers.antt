use Rattle.std.proofs.Common.{subst}
use Rattle.update_machine.specs.Exports.{IsMachineSetting}
use Rattle.world.proofs.BegunWorld.{first_plans}
use Rattle.replay.proofs.ReplayedWorld.{tie_of}
use Rattle.replay.proofs.playing.replay.Goals as goal

pub returns-clause-planned : goal.returns-clause-planned
returns-clause-planned g c = let begun = c.in_ok-world.ensures.begun in
    first_plans c.args.net.now c.args.files.items
    (subst IsMachineSetting begun.own
    (tie_of c.in_ok-world.world (c.refines.ensures begun.able)).sound) c.requires.first
