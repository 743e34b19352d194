use Rattle.std.proofs.Common.{ap, eqb, sym}
use Rattle.wire.proofs.WireFramesHeld.{agree_first}
use Rattle.wire.proofs.assembler.agree.Goals as goal

pub returns-in-Some : goal.returns-in-Some
returns-in-Some c =
    agree_first c.args.frames.now c.in-Some.first.now c.args.count (eqb c.count.result c.args.count) c.requires
    (sym c.in-Some.ensures.value) (ap (λ n. eqb n c.args.count) c.count.ensures)
