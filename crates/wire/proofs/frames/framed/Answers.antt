use Rattle.std.proofs.Common.{[], ◌≡◌, length, map, sym}
use Rattle.base.proofs.Exports.{get_or-map, length-map}
use Rattle.wire.specs.Exports.{wire_frames_of}
use Rattle.wire.proofs.WireSpellingCuts.{frames_go_on}
use Rattle.wire.proofs.frames.framed.Goals as goal

pub loop-place-preserved : goal.loop-place-preserved
loop-place-preserved c =
    let parts = map (λ p. p.now) c.args.parts.now in
    let len : length parts ≡ length c.args.parts.now = length-map c.args.parts.now (λ p. p.now) in
    rw (c.in_ok-push.ensures.items, c.in_ok-frame.ensures, ← len)
    (frames_go_on c.loop-place.frames.items parts (length parts) c.loop-place.place _ (wire_frames_of parts)
    (rw len c.loop-place-test.true) (sym (get_or-map (λ p. p.now) c.args.parts.now c.loop-place.place _ [] c.loop-place-test.true))
    c.loop-place.invariant)
