use Rattle.std.proofs.Common.{sym}
use Rattle.ternary.proofs.TernaryWords.{sum_meet, sum_word, no_meet, meet_both, disjoint_as}
use Rattle.ternary.proofs.word.Word.meet.Goals as goal

pub invariant_of-result : goal.invariant_of-result
invariant_of-result c = sum_word _ _ c.self.invariant c.other.invariant

pub returns-then-self-common-clause-pair : goal.returns-then-self-common-clause-pair
returns-then-self-common-clause-pair c = rw (← c.self.view_is, ← c.other.view_is)
    (sum_meet _ _ c.self.invariant c.other.invariant c.if-self-common.true)

pub returns-then-self-common-clause-both : goal.returns-then-self-common-clause-both
returns-then-self-common-clause-both c = (
  meet_both _ _ _ (sym (returns-then-self-common-clause-pair c)),
  sum_word _ _ c.self.invariant c.other.invariant,
)

pub returns-then-self-common-clause-none : goal.returns-then-self-common-clause-none
returns-then-self-common-clause-none c = disjoint_as _ _ c.self.invariant c.other.invariant
    c.self.view_is c.other.view_is (returns-then-self-common-clause-pair c)

pub returns-else-self-common-clause-pair : goal.returns-else-self-common-clause-pair
returns-else-self-common-clause-pair c = rw (← c.self.view_is, ← c.other.view_is)
    (no_meet _ _ c.self.invariant c.other.invariant c.if-self-common.false)

pub returns-else-self-common-clause-none : goal.returns-else-self-common-clause-none
returns-else-self-common-clause-none c = disjoint_as _ _ c.self.invariant c.other.invariant
    c.self.view_is c.other.view_is (returns-else-self-common-clause-pair c)
