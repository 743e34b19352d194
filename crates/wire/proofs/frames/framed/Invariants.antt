use Rattle.std.proofs.Common.{◌++◌, ◌≡◌, drop, length, map}
use Rattle.wire.specs.Exports.{wire_frames_from, wire_frames_of}
use Rattle.wire.proofs.frames.framed.Given as goal

abbrev pub invariant-loop-place : goal.invariant-loop-place
invariant-loop-place l = let parts = map (λ p. p.now) l.parts in
    l.frames.items ++ wire_frames_from l.place (length parts) (drop l.place parts) ≡ wire_frames_of parts
