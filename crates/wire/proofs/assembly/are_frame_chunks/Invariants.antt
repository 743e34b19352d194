use Rattle.std.proofs.Common.{◌≡◌, map, take}
use Rattle.wire.specs.Exports.{chunk_in_wire_frame}
use Rattle.wire.proofs.assembly.are_frame_chunks.Given as goal

abbrev pub invariant-loop-place : goal.invariant-loop-place
invariant-loop-place l =
    map chunk_in_wire_frame (take l.place l.frames) ≡ map (λ p. p.now) (take l.place l.parts)
