use Rattle.std.proofs.Common.{◌∙◌, sym}
use Rattle.wire.specs.Exports.{another_count}
use Rattle.wire.proofs.assembler.frame_check_of.Goals as goal

pub returns-then-not-agree : goal.returns-then-not-agree
returns-then-not-agree c = let a = c.if-not-agree.ensures in
    another_count a.0 a.1 a.2 (λ e. a.3 (e ∙ sym c.wire_count_of-2.ensures))
