use Rattle.std.proofs.Common.{map}
use Rattle.base.proofs.Exports.{map_push}
use Rattle.wire.specs.Exports.{wire_chunks_behind_head, most_of_wire_chunk}
use Rattle.wire.proofs.WireSpellingCuts.{goes_on}
use Rattle.wire.proofs.frames.cut.Goals as goal

pub loop-preserved : goal.loop-preserved
loop-preserved c =
    rw (c.in_ok-push-2.ensures.items, map_push, c.split_front-in-loop.ensures.front, c.split_front-in-loop.ensures.back)
    (goes_on (map (λ p. p.now) c.loop.parts.items) c.div_ceil-count.result c.loop.counter
    most_of_wire_chunk c.loop.left.now
    (wire_chunks_behind_head c.args.head c.args.bytes.now) c.loop-test.true c.loop.invariant)
