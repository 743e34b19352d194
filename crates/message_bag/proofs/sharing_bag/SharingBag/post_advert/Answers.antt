use Rattle.std.proofs.Common.{◌∙◌, Some, ap, arith}
use Rattle.base.proofs.Exports.{common_steps}
use Rattle.message_bag.proofs.BagNumberedPosts.{last_numbered}
use Rattle.message_bag.proofs.BagRepeatedMessages.{all_same, one_set}
use Rattle.message_bag.specs.Exports.{bag_posted_frames}
use Rattle.message_bag.proofs.sharing_bag.SharingBag.post_advert.Goals as goal

pub post_new_bag_advert-requires-clause-adverts : goal.post_new_bag_advert-requires-clause-adverts
post_new_bag_advert-requires-clause-adverts c = all_same c.self.inside.bag c.self.inside.last.items
    c.make_bag_advert_place.new.adverts.items c.make_bag_advert_place.ensures.same c.self.invariant

pub invariant_of-self-in_err-number : goal.invariant_of-self-in_err-number
invariant_of-self-in_err-number c = c.post_new_bag_advert.ensures.adverts

pub invariant_of-self-2 : goal.invariant_of-self-2
invariant_of-self-2 c =
    one_set c.post_new_bag_advert.new.bag c.post_new_bag_advert.new.adverts.items c.args.place _ c.post_new_bag_advert.ensures.adverts
    (last_numbered _ c.self.inside.bag _ c.in_ok-number.number c.in_ok-number.ensures.posted
    ∙ ap (λ m. Some (bag_posted_frames m)) (grind (arith, common_steps)))
