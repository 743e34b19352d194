use Rattle.message_bag.proofs.BagFrameArrivals.{same_message}
use Rattle.message_bag.proofs.laws.bag_frames_have_one_message.Goals as goal

pub returns : goal.returns
returns c = same_message
