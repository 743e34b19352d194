use Rattle.std.proofs.Common.{◌∙◌, arith, subst, sym}
use Rattle.message_bag.specs.Exports.{AreBagMessagesPassed}
use Rattle.message_bag.proofs.BagWaitingStatuses.{taken_back, without_last}
use Rattle.message_bag.proofs.deliveries.Deliveries.take_back.Goals as goal

pub invariant_of-self : goal.invariant_of-self
invariant_of-self c =
    let all = c.self.inside.statuses.items in
    let passed = c.self.inside.passed in
    let before = c.requires.0 in
    let is = c.self.view_is ∙ c.requires.1 in
    subst (AreBagMessagesPassed passed)
    (sym (c.truncate.ensures.items ∙ without_last _ all before is (omega arith)))
    (taken_back passed before (subst (AreBagMessagesPassed passed) is c.self.invariant))

pub returns : goal.returns
returns c = λ before is. c.truncate.ensures.items
    ∙ without_last _ c.self.inside.statuses.items before (c.self.view_is ∙ is) (omega arith)
