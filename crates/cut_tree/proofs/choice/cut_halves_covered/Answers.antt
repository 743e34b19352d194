use Rattle.std.proofs.Common.{◌<◌, ◌∙◌, ◌≡◌, arith, bit_xor, refl, sym}
use Rattle.base.proofs.Exports.{both_ways}
use Rattle.cut_tree.proofs.CutSides.{beyond, beyond_small, covered_whole, covered_one, covered_none}
use Rattle.cut_tree.proofs.choice.cut_halves_covered.Goals as goal
use Rattle.cut_tree.proofs.choice.cut_halves_covered.Goals.{After-mask-2}

-- the bits that are compared
fixed_is : (c : After-mask-2) → bit_xor c.mask.result c.mask-2.result
    ≡ beyond c.args.word.now c.args.region.now
fixed_is c = rw (c.mask.ensures.mask, c.mask-2.ensures.mask) refl

pub returns-then-fixed-eq0 : goal.returns-then-fixed-eq0
returns-then-fixed-eq0 c = λ bit free.
    let is = fixed_is (goal.at.returns-then-fixed-eq0 c).After-mask-2 in
    covered_whole c.args.word.now c.args.region.now bit c.args.one _ c.requires
    (sym is ∙ c.if-fixed-eq0.true) (c.cut_halves_met-met.ensures bit free.bound)

pub returns-then-is_one_cut_bit : goal.returns-then-is_one_cut_bit
returns-then-is_one_cut_bit c = λ bit free.
    let is = fixed_is (goal.at.returns-then-is_one_cut_bit c).After-mask-2 in
    rw is (covered_one c.args.word.now c.args.region.now _ bit c.args.one _ c.requires (sym is
    ∙ c.is_one_cut_bit.ensures.0 c.if-is_one_cut_bit.true) (c.cut_halves_met-met.ensures bit free.bound))

pub returns-else-is_one_cut_bit : goal.returns-else-is_one_cut_bit
returns-else-is_one_cut_bit c = λ bit free.
    let is = fixed_is (goal.at.returns-else-is_one_cut_bit c).After-mask-2 in
    let some : 0 < bit_xor c.mask.result c.mask-2.result = omega (arith, c.if-fixed-eq0.false) in
    covered_none c.args.word.now c.args.region.now bit c.args.one c.requires (rw (← is) some)
    (beyond_small c.args.word.now c.args.region.now (omega arith) (omega arith))
    (rw (← is) (λ e. both_ways _ c.if-is_one_cut_bit.false (c.is_one_cut_bit.ensures.1 e)))
