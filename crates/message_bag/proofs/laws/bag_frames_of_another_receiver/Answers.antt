use Rattle.message_bag.proofs.BagFramesOfReceivers.{of_another_receiver}
use Rattle.message_bag.proofs.laws.bag_frames_of_another_receiver.Goals as goal

pub returns : goal.returns
returns c = of_another_receiver
