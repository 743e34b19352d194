use Rattle.std.proofs.Common.{◌∙◌, refl, sym}
use Rattle.journal.specs.declared.item.Item.TheVariants as item
use Rattle.message_bag.specs.Exports.{bag_posts_with_forgotten}
use Rattle.refinement.proofs.RefinedBagDeliveries.{forgotten_refines, unforgotten}
use Rattle.world.proofs.WorldStepClauses.{files_stay, goes_nothing, goes_one, none_in, plane_stays}
use Rattle.world.proofs.parts.WorldParts.forget.Goals as goal

pub returns-then-not-may_be_delivered : goal.returns-then-not-may_be_delivered
returns-then-not-may_be_delivered c = λ before row begins. let self = c.args.self.now in
    goes_nothing begins refl (unforgotten begins.ready.refines row c.args.number begins.ready.may
    (sym c.may_be_delivered.ensures ∙ c.if-not-may_be_delivered.true))
    c.push.ensures.pushed c.push.ensures.unchanged

pub returns : goal.returns
returns c = λ before row begins. let self = c.args.self.now in
    goes_one begins (files_stay refl refl)
    (item.Forgotten c.args.number) (bag_posts_with_forgotten self.log.bag c.args.number)
    (plane_stays refl refl refl) c.forget.ensures (none_in _)
    (forgotten_refines begins.ready.refines row c.args.number begins.ready.may
    (sym c.may_be_delivered.ensures ∙ c.if-not-may_be_delivered.false))
    c.push-2.ensures.pushed c.push-2.ensures.unchanged
