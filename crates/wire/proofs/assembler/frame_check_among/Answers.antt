use Rattle.std.proofs.Common.{◌∙◌, ◌≡◌, List, Option, ap, arith, refl, sym, ℕ}
use Rattle.base.proofs.Exports.{false_not_true}
use Rattle.wire.specs.Exports.{another_frame, wire_frame_held_at, place_in_wire_frame}
use Rattle.wire.proofs.WireFormatLaws.{AreBytes}
use Rattle.wire.proofs.WireFramesHeld.{index_of, check_held, check_new}
use Rattle.wire.proofs.assembler.frame_check_among.Goals as goal

-- what is held at the place that was read is held at the frame's place
at_place : (frames : List (List ℕ)) (frame : List ℕ) (place : ℕ) (held : Option (List ℕ))
    → place ≡ place_in_wire_frame frame → held ≡ wire_frame_held_at frames place
    → wire_frame_held_at frames (place_in_wire_frame frame) ≡ held
at_place frames frame place held is found = ap (wire_frame_held_at frames) (sym is) ∙ sym found

pub returns-then-are_same_frame_bytes : goal.returns-then-are_same_frame_bytes
returns-then-are_same_frame_bytes c = check_held c.args.frames.now c.args.frame.now c.in-Some.held.now
    c.requires.long c.requires.short c.requires.below c.requires.rising
    (at_place _ _ _ _ c.wire_place_of-place.ensures c.in-Some.ensures)
    (sym c.bytes.ensures.bytes ∙ c.if-are_same_frame_bytes.ensures.0 refl)

pub returns-else-are_same_frame_bytes : goal.returns-else-are_same_frame_bytes
returns-else-are_same_frame_bytes c =
    another_frame c.in-Some.held.now (at_place _ _ _ _ c.wire_place_of-place.ensures c.in-Some.ensures)
    (λ e. false_not_true (c.if-are_same_frame_bytes.ensures.1 (c.bytes.ensures.bytes ∙ e)))

pub returns-in-None : goal.returns-in-None
returns-in-None c = let are : AreBytes c.args.frame.now = λ i. omega (arith, c.type_inv.frame i) in
    check_new c.args.frames.now c.args.frame.now c.wire_frame_index_of.result c.requires.long c.requires.short
    are c.requires.below c.requires.rising
    (at_place _ _ _ _ c.wire_place_of-place.ensures c.in-None.ensures)
    (c.wire_frame_index_of.ensures ∙ ap (index_of c.args.frames.now) c.wire_place_of-place.ensures)
