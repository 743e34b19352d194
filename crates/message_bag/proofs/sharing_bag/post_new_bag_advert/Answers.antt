use Rattle.std.proofs.Common.{◌∙◌, Some, ap, arith, subst, sym}
use Rattle.base.proofs.Exports.{common_steps}
use Rattle.ctrl_msg.specs.declared.message.Message.{Message}
use Rattle.message_bag.proofs.BagNumberedPosts.{last_numbered}
use Rattle.message_bag.proofs.BagRepeatedMessages.{adverts_posted, likened, one_set}
use Rattle.message_bag.specs.Exports.{AreAdvertsPostedInBag, bag_posted_frames}
use Rattle.message_bag.proofs.sharing_bag.post_new_bag_advert.Goals as goal

pub post_like-requires-clause-like : goal.post_like-requires-clause-like
post_like-requires-clause-like c =
    likened c.args.bag.now c.deref.result.now c.args.origin c.in-Some.last.now c.get-in-Some.result.now
    (subst (AreAdvertsPostedInBag c.args.bag.now) (sym c.deref.ensures.value) c.requires.adverts)
    c.in-Some.ensures.there
    (c.in-Some.ensures.same ∙ ap (λ (m : Message). m.body) (c.get.ensures ∙ sym c.get-in-Some.ensures))

pub returns-in-Some-clause-adverts : goal.returns-in-Some-clause-adverts
returns-in-Some-clause-adverts c = adverts_posted _ _ c.args.bag.now c.post_like.new.self
    c.args.adverts.now.items c.post_like.ensures.posted c.requires.adverts

pub returns-in_err-number-clause-adverts : goal.returns-in_err-number-clause-adverts
returns-in_err-number-clause-adverts c = rw c.in_err-number.ensures.posted.unchanged c.requires.adverts

pub returns-clause-adverts : goal.returns-clause-adverts
returns-clause-adverts c = let bag = c.args.bag.now in
    one_set c.post.new.self c.args.adverts.now.items c.args.origin _
    (adverts_posted _ _ bag c.post.new.self c.args.adverts.now.items c.in_ok-number.ensures.posted c.requires.adverts)
    (last_numbered _ bag c.post.new.self c.in_ok-number.number c.in_ok-number.ensures.posted
    ∙ ap (λ m. Some (bag_posted_frames m)) (grind (arith, common_steps)))
