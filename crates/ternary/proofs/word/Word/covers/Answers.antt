use Rattle.std.proofs.Common.{rules}
use Rattle.ternary.specs.Exports.{word_covers_of}
use Rattle.ternary.proofs.TernaryWords.{inclusion_as}
use Rattle.ternary.proofs.word.Word.covers.Goals as goal

pub returns-then-self-other-clause-inclusion : goal.returns-then-self-other-clause-inclusion
unfolding word_covers_of
returns-then-self-other-clause-inclusion c =
    inclusion_as _ _ c.self.invariant c.other.invariant c.self.view_is c.other.view_is (search rules)

pub returns-else-self-other-clause-inclusion : goal.returns-else-self-other-clause-inclusion
unfolding word_covers_of
returns-else-self-other-clause-inclusion c =
    inclusion_as _ _ c.self.invariant c.other.invariant c.self.view_is c.other.view_is (search rules)
