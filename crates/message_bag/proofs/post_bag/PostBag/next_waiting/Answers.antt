use Rattle.std.proofs.Common.{◌∙◌, ap, sym}
use Rattle.message_bag.specs.Deliveries as statuses
use Rattle.message_bag.specs.Exports.{next_waiting_bag_post}
use Rattle.message_bag.proofs.BagFramesByStatus.{statuses_of_zip}
use Rattle.message_bag.proofs.post_bag.PostBag.next_waiting.Goals as goal

pub returns : goal.returns
returns c = c.next_waiting.ensures ∙ ap (λ all. statuses.next_waiting all c.args.from)
    (sym (statuses_of_zip c.self.inside.frames c.self.inside.deliveries c.self.invariant))
    ∙ ap (λ posts. next_waiting_bag_post posts c.args.from) c.self.view_is
