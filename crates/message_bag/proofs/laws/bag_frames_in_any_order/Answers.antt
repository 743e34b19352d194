use Rattle.message_bag.proofs.BagFrameArrivals.{all_come, taken, whole}
use Rattle.message_bag.proofs.laws.bag_frames_in_any_order.Goals as goal

pub returns : goal.returns
returns c = record { taken = taken; all_held = all_come; whole = whole }
