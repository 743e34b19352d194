use Rattle.std.proofs.Common.{◌≡◌, arith, bit_xor, refl}
use Rattle.base.proofs.Exports.{both_ways}
use Rattle.cut_tree.proofs.CutSides.{beyond, beyond_small, covers_no_half}
use Rattle.cut_tree.proofs.choice.fixes_few_cuttable_bits.Goals as goal

pub returns-else-fixed-eq0 : goal.returns-else-fixed-eq0
returns-else-fixed-eq0 c = λ no bit one free. let w = c.args.word.now in
    let r = c.args.region.now in
    let is : bit_xor c.mask.result c.mask-2.result ≡ beyond w r =
    rw (c.mask.ensures.mask, c.mask-2.ensures.mask) refl in
    covers_no_half w r bit one c.requires (rw (← is) (omega (arith, c.if-fixed-eq0.false)))
    (beyond_small w r (omega arith) (omega arith))
    (rw (← is) (λ e. both_ways _ no (c.is_one_cut_bit.ensures.1 e)))
