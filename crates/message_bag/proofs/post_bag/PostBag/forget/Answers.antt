use Rattle.message_bag.specs.Exports.{bag_forgotten_status}
use Rattle.message_bag.proofs.BagFramesByStatus.{posts_changed}
use Rattle.message_bag.proofs.post_bag.PostBag.forget.Goals as goal

pub returns : goal.returns
returns c = posts_changed bag_forgotten_status c.self.inside.frames c.self.inside.deliveries _ _
    c.args.number c.self.invariant c.self.view_is c.forget.ensures
