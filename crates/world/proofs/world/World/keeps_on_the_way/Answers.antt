use Rattle.world.proofs.WorldSoFar.{kept_in, so_far_in}
use Rattle.world.proofs.world.World.keeps_on_the_way.Goals as goal

pub returns-clause-so_far : goal.returns-clause-so_far
returns-clause-so_far c = λ able.
    so_far_in c.packet_journals_hold_so_far.ensures c.args.self.now (c.refines.ensures able)

pub returns-clause-kept : goal.returns-clause-kept
returns-clause-kept c = λ able.
    kept_in c.packet_steps_are_kept.ensures c.args.self.now (c.refines.ensures able)
