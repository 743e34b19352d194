use Rattle.std.proofs.Common.{◌∙◌, ◌≡◌, ap, length, sym}
use Rattle.base.proofs.Exports.{length-map}
use Rattle.wire.specs.Exports.{wire_chunks_behind_head}
use Rattle.wire.proofs.WireSpellingCuts.{few_chunks}
use Rattle.wire.proofs.frames.split.Goals as goal

pub framed-requires : goal.framed-requires
framed-requires c =
    let bytes = c.deref-2.result.now in
    let len : length c.deref-3.result.now ≡ length (wire_chunks_behind_head c.wire_first_chunk_len.result bytes) =
    ap length c.deref-3.ensures.value ∙ sym (length-map c.in_ok-parts.parts.items (λ p. p.now))
    ∙ ap length c.in_ok-parts.ensures in
    rw len (few_chunks c.wire_first_chunk_len.result bytes
    (rw (c.deref-2.ensures.value, c.in_ok-bytes.ensures.spelled) c.requires.short))
