use Rattle.std.proofs.Common.{◌∙◌, ap}
use Rattle.ternary.specs.Exports.{holds}
use Rattle.ternary.proofs.TernaryWords.{set_fix, fix_holds, fix_word}
use Rattle.ternary.proofs.word.Word.fix.Goals as goal

pub returns-clause-pair : goal.returns-clause-pair
returns-clause-pair c = rw (c.from.ensures, ← c.self.view_is) (set_fix _ c.self.invariant c.args.bit
    c.args.one c.requires.bound (rw (← c.self.view_is) at c.requires.free))

pub returns-clause-half : goal.returns-clause-half
returns-clause-half c = λ h. ap (λ w. holds w h) (returns-clause-pair c)
    ∙ fix_holds c.args.self.now c.args.bit c.args.one c.requires.free h

pub returns-clause-word : goal.returns-clause-word
returns-clause-word c = rw (returns-clause-pair c) (fix_word c.args.self.now c.args.bit c.args.one
    (rw c.self.view_is at c.self.invariant) c.requires.bound)

pub invariant_of-result : goal.invariant_of-result
invariant_of-result c = returns-clause-word c
