use Rattle.std.proofs.Common.{◌++◌, ◌-◌, ◌≡◌, map}
use Rattle.wire.specs.Exports.{wire_chunks_behind_head, wire_equal_chunks, most_of_wire_chunk}
use Rattle.wire.proofs.frames.cut.Given as goal

abbrev pub invariant-loop : goal.invariant-loop
invariant-loop l =
    map (λ p. p.now) l.parts.items ++ wire_equal_chunks (l.count - l.counter) most_of_wire_chunk l.left
    ≡ wire_chunks_behind_head l.head l.bytes
