use Rattle.message_bag.proofs.BagFramesByStatus.{one_more}
use Rattle.message_bag.proofs.post_bag.PostBag.post_shared.Goals as goal

pub returns-in-Ok-clause-posted : goal.returns-in-Ok-clause-posted
returns-in-Ok-clause-posted c =
    one_more c.in-Ok.both.0 c.self.inside.frames c.post_shared.new.self c.self.inside.deliveries c.add.new.self
    c.args.self.now c.args.message c.self.invariant c.self.view_is c.in-Ok.ensures.posted c.in_ok-add.ensures.added
