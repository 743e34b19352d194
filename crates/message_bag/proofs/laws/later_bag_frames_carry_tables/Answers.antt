use Rattle.message_bag.proofs.BagInstallationSpelling.{installed}
use Rattle.message_bag.proofs.laws.later_bag_frames_carry_tables.Goals as goal

pub returns : goal.returns
returns c = installed
