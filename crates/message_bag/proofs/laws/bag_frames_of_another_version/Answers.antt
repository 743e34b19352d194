use Rattle.message_bag.proofs.BagTablesRestamped.{of_another_version}
use Rattle.message_bag.proofs.laws.bag_frames_of_another_version.Goals as goal

pub returns : goal.returns
returns c = of_another_version
