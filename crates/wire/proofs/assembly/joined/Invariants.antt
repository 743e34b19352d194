use Rattle.std.proofs.Common.{◌≡◌, flat_map, take}
use Rattle.wire.specs.Exports.{chunk_in_wire_frame}
use Rattle.wire.proofs.assembly.joined.Given as goal

abbrev pub invariant-loop-frame : goal.invariant-loop-frame
invariant-loop-frame l = l.bytes.items ≡ flat_map chunk_in_wire_frame (take l.frame-index l.frames)
