use Rattle.message_bag.proofs.BagInstallationFrames.{says}
use Rattle.message_bag.proofs.tables.BagTableFrames.new.Goals as goal

pub invariant_of-result : goal.invariant_of-result
invariant_of-result c = rw c.in_ok-said.ensures c.in_ok-tables_in_bag_frames.ensures

pub returns : goal.returns
returns c = says c.args.message.now c.in_ok-frames.frames c.requires.1.0 c.args.tables.now
    c.in_ok-frames.ensures c.requires.1.1
