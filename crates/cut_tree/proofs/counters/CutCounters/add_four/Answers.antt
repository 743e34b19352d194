use Rattle.std.proofs.Common.{◌∙◌, ◌≡◌, arith}
use Rattle.base.proofs.Exports.{bit_at-lt}
use Rattle.cut_tree.proofs.CutCounting.{carried_on, carried_out, four_added}
use Rattle.cut_tree.proofs.counters.CutCounters.add_four.Goals as goal

pub loop-place-init : goal.loop-place-init
loop-place-init c = λ bit. four_added c.args.self.now.planes _ _ _ _ _ _ c.args.a c.args.b c.args.c
    c.args.d bit (omega arith) (c.added-sum.ensures bit) (c.added-ones.ensures bit)
    (c.added-twos.ensures bit)

pub returns-then-carry-eq0 : goal.returns-then-carry-eq0
returns-then-carry-eq0 c = λ bit.
    carried_out _ _ _ bit (omega arith) c.if-carry-eq0.true ∙ c.loop-place.invariant bit

pub loop-place-preserved : goal.loop-place-preserved
loop-place-preserved c = λ bit. carried_on _ _ _ bit (omega arith) ∙ c.loop-place.invariant bit

pub returns : goal.returns
returns c = λ bit. let ended : c.loop-place.place ≡ 32 =
    omega (arith, c.loop-place.auto.place-end (omega arith), c.loop-place-test.false) in
    let counted = rw ended at (c.loop-place.invariant bit) in
    omega (arith, counted, c.requires bit, bit_at-lt c.loop-place.carry bit)
