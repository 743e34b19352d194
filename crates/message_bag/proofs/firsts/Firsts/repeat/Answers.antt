use Rattle.std.proofs.Common.{arith}
use Rattle.base.proofs.Exports.{common_steps}
use Rattle.message_bag.specs.Exports.{bag_first_frame_in}
use Rattle.message_bag.proofs.BagFirstFrameSpans.{added_again}
use Rattle.message_bag.proofs.BagNumberedPosts.{mapped_again}
use Rattle.message_bag.proofs.firsts.Firsts.repeat.Goals as goal

pub returns : goal.returns
returns c = mapped_again (bag_first_frame_in c.self.inside.bytes.items) c.self.inside.spans.items
    c.push.new.self.items c.args.self.now c.args.index _ c.self.view_is
    (added_again _ _ _ c.index-span.result.now c.args.index c.len.result c.index-span.ensures
    c.in_ok-push.ensures.items (grind (arith, common_steps)))
