use Rattle.std.proofs.Common.{◌-◌, ◌≡◌, ap, arith, min, sym}
use Rattle.base.proofs.Exports.{bit_at, bit_at-lt, bit_at_and, from_bool}
use Rattle.cut_tree.proofs.CutSides.{still_open, side_step}
use Rattle.cut_tree.proofs.choice.pass.Goals as goal

pub returns-then-not-may_cover : goal.returns-then-not-may_cover
returns-then-not-may_cover c = λ bit rules free. let was = c.args.left.now in
    let met = c.cut_halves_met-met.result in
    let step = side_step c.args.region.now c.args.rule.now rules bit c.args.one (bit_at was bit)
    (bit_at met bit) 0 c.requires free (bit_at-lt was bit)
    (c.cut_halves_met-met.ensures bit free.bound)
    (sym (ap from_bool (c.fixes_few_cuttable_bits-may_cover.ensures c.if-not-may_cover.true bit c.args.one free))) in
    let still : min (bit_at was bit) (1 - 0) ≡ bit_at was bit = omega (arith, bit_at-lt was bit) in
    rw (bit_at_and was met bit) (rw still at step)

pub returns : goal.returns
returns c = λ bit rules free. let was = c.args.left.now in
    let met = c.cut_halves_met-met.result in
    let covered = c.cut_halves_covered-covered.result in
    let step = side_step c.args.region.now c.args.rule.now rules bit c.args.one (bit_at was bit)
    (bit_at met bit) (bit_at covered bit) c.requires free (bit_at-lt was bit)
    (c.cut_halves_met-met.ensures bit free.bound) (c.cut_halves_covered-covered.ensures bit free) in
    rw (
      bit_at_and was met bit,
      still_open was covered bit c.cut_halves_covered-covered.type_inv free.bound,
    ) step
