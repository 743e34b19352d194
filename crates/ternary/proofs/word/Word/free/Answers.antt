use Rattle.std.proofs.Common.{◌∙◌, ap}
use Rattle.ternary.specs.Exports.{holds}
use Rattle.ternary.proofs.TernaryWords.{cleared_free, free_holds, free_word}
use Rattle.ternary.proofs.word.Word.free.Goals as goal

pub returns-clause-pair : goal.returns-clause-pair
returns-clause-pair c =
    rw (← c.self.view_is) (cleared_free _ c.self.invariant c.args.bit c.requires)

pub returns-clause-either : goal.returns-clause-either
returns-clause-either c = λ h.
    ap (λ w. holds w h) (returns-clause-pair c) ∙ free_holds c.args.self.now c.args.bit h

pub returns-clause-word : goal.returns-clause-word
returns-clause-word c = rw (returns-clause-pair c)
    (free_word c.args.self.now c.args.bit (rw c.self.view_is at c.self.invariant))

pub invariant_of-result : goal.invariant_of-result
invariant_of-result c = returns-clause-word c
