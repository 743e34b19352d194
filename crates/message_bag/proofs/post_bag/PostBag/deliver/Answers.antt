use Rattle.message_bag.specs.Exports.{bag_delivered_status}
use Rattle.message_bag.proofs.BagFramesByStatus.{posts_changed}
use Rattle.message_bag.proofs.post_bag.PostBag.deliver.Goals as goal

pub returns : goal.returns
returns c = posts_changed bag_delivered_status c.self.inside.frames c.self.inside.deliveries _ _
    c.args.number c.self.invariant c.self.view_is c.deliver.ensures
