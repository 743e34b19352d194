use Rattle.std.proofs.Common.{◌∙◌, sym}
use Rattle.cut_tree.proofs.CutHalves.{admits_digit, admits_free, admits_other, half_apart, half_met, held_bit, value_digit}
use Rattle.cut_tree.proofs.narrowing.cut_word_with_bit.Goals as goal

pub returns-then-not-is_fixed : goal.returns-then-not-is_fixed
returns-then-not-is_fixed c = λ region r_word free within. half_met c.holds_laws.ensures
    c.args.word.now region c.fix.result c.args.bit c.args.one c.mask.ensures.word r_word
    c.fix.ensures.word free.bound free.free within (admits_free c.args.word.now c.args.bit
    c.args.one (sym c.is_fixed.ensures ∙ c.if-not-is_fixed.true)) c.fix.ensures.half

pub returns-then-is_one-one : goal.returns-then-is_one-one
returns-then-is_one-one c = λ region r_word free within. let w = c.args.word.now in
    let fixed = sym c.is_fixed.ensures ∙ c.if-not-is_fixed.false in
    let digit = value_digit w c.args.bit c.args.one (rw (← c.value.ensures.value) c.if-is_one-one.true) in
    half_met c.holds_laws.ensures w region w c.args.bit c.args.one
    c.mask.ensures.word r_word c.mask.ensures.word free.bound free.free within
    (admits_digit w c.args.bit c.args.one digit)
    (held_bit c.holds_laws.ensures w c.args.bit c.args.one fixed digit)

pub returns-else-is_one-one : goal.returns-else-is_one-one
returns-else-is_one-one c = λ region r_word free within. let w = c.args.word.now in
    let fixed = sym c.is_fixed.ensures ∙ c.if-not-is_fixed.false in
    half_apart w region c.args.bit c.args.one free.free within
    (admits_other w c.args.bit c.args.one fixed (rw (← c.value.ensures.value) c.if-is_one-one.false))
