use Rattle.std.proofs.Common.{◌≡◌, take}
use Rattle.wire.proofs.frames.shared.Given as goal

abbrev pub invariant-loop-frame : goal.invariant-loop-frame
invariant-loop-frame l = l.all.items ≡ take l.frame-index l.frames
