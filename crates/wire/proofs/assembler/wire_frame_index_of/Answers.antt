use Rattle.wire.proofs.WireFramesHeld.{index_found, index_past}
use Rattle.wire.proofs.assembler.wire_frame_index_of.Goals as goal

pub returns-in-Some : goal.returns-in-Some
returns-in-Some c = index_found c.args.frames.now c.args.place c.in-Some.index c.in-Some.ensures

pub returns-in-None : goal.returns-in-None
returns-in-None c = index_past c.args.frames.now c.args.place c.in-None.ensures
