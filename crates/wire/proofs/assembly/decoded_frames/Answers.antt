use Rattle.std.proofs.Common.{◌∙◌, ap, map, refl, sym}
use Rattle.base.proofs.Exports.{err_from_is_err_and, false_not_true}
use Rattle.wire.specs.Exports.{wire_chunks_behind_head}
use Rattle.wire.proofs.WireFrameAssembly.{frames_by, none_by, none_spelled}
use Rattle.wire.proofs.assembly.decoded_frames.Goals as goal

pub returns-in_err-message : goal.returns-in_err-message
returns-in_err-message c =
    let p = err_from_is_err_and c.from_residual.result c.from_residual.ensures.1 in
    rw (p.1, p.2) (none_spelled c.args.frames.now c.args.bytes.now c.in_err-message.field-0.0 c.requires.bytes c.in_err-message.ensures.malformed)

pub returns-then-are_frame_chunks : goal.returns-then-are_frame_chunks
returns-then-are_frame_chunks c = frames_by c.in_ok-message.message c.args.bytes.now c.args.frames.now
    c.requires.rising c.in_ok-message.ensures.found
    (c.if-are_frame_chunks.ensures.0 refl ∙ ap (map (λ p. p.now)) c.deref.ensures.value
    ∙ c.in_ok-parts.ensures ∙ ap (λ n. wire_chunks_behind_head n c.args.bytes.now) c.wire_first_chunk_len.ensures)

pub returns-else-are_frame_chunks : goal.returns-else-are_frame_chunks
returns-else-are_frame_chunks c =
    let parts = ap (map (λ p. p.now)) c.deref.ensures.value ∙ c.in_ok-parts.ensures
    ∙ ap (λ n. wire_chunks_behind_head n c.args.bytes.now) c.wire_first_chunk_len.ensures in (
      refl,
      none_by c.in_ok-message.message c.args.bytes.now c.args.frames.now c.requires.bytes c.in_ok-message.ensures.found
          (λ e. false_not_true (c.if-are_frame_chunks.ensures.1 (e ∙ sym parts))),
    )
