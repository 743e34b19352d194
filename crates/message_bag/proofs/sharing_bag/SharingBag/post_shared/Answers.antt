use Rattle.message_bag.proofs.BagRepeatedMessages.{again_posted}
use Rattle.message_bag.proofs.sharing_bag.SharingBag.post_shared.Goals as goal

pub invariant_of-self-then-eq : goal.invariant_of-self-then-eq
invariant_of-self-then-eq c =
    again_posted _ c.self.inside.bag c.repeat.new.self c.self.inside.last.items c.in-Some.place c.in-Some-find.last.now
    c.self.invariant (rw c.deref.ensures.value at c.in-Some-find.ensures.there) c.repeat.ensures.posted
