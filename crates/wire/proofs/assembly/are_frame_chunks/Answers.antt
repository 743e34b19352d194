use Rattle.std.proofs.Common.{[], ◌<◌, ◌∙◌, ap, arith, get_or, length, sym}
use Rattle.base.proofs.Exports.{false_not_true, get_or-map}
use Rattle.wire.specs.Exports.{chunk_in_wire_frame}
use Rattle.wire.proofs.assembly.are_frame_chunks.Goals as goal

pub returns-then-not-are_same_frame_bytes : goal.returns-then-not-are_same_frame_bytes
returns-then-not-are_same_frame_bytes c =
    let place = c.loop-place.place in
    let within : place < length c.args.parts.now = omega arith in (
      λ is. absurd (false_not_true is),
      λ e. c.if-not-are_same_frame_bytes.ensures.1 (c.chunk.ensures ∙ ap chunk_in_wire_frame c.index-frames-place.is
          ∙ sym (get_or-map chunk_in_wire_frame c.args.frames.now place c.index-frames-place.result []
          c.loop-place-test.true) ∙ ap (λ ps. get_or ps place []) e
          ∙ get_or-map (λ p. p.now) c.args.parts.now place _ [] within),
    )
