use Rattle.std.proofs.Common.{subst}
use Rattle.wire.specs.declared.assembler.FrameCheck.TheVariants.{Held, New}
use Rattle.wire.specs.Exports.{IsWireMessageAssembled, IsWireFrameCheck, count_in_wire_frame}
use Rattle.wire.proofs.WireFramesHeld.{fed_held, fed_new}
use Rattle.wire.proofs.assembler.feed.Goals as goal

pub returns-in-Held : goal.returns-in-Held
returns-in-Held c =
    let held = c.args.frames.now.items in
    let f = c.args.frame.now in
    let r = c.wire_message_of.result in
    let answer : IsWireMessageAssembled held (count_in_wire_frame f) r =
    subst (λ n. IsWireMessageAssembled held n r) c.wire_count_of.ensures
    (subst (λ fs. IsWireMessageAssembled fs c.wire_count_of.result r) c.deref-in-Held.ensures.value c.wire_message_of.ensures) in
    fed_held held f r c.requires
    (subst (λ fs. IsWireFrameCheck fs f Held) c.deref.ensures.value c.in-Held.ensures) answer

pub returns-in-New : goal.returns-in-New
returns-in-New c =
    let held = c.args.frames.now.items in
    let f = c.args.frame.now in
    let index = c.in-New.index in
    fed_new held f index c.hold.new.frames.items c.hold.result c.requires
    (subst (λ fs. IsWireFrameCheck fs f (New index)) c.deref.ensures.value c.in-New.ensures)
    c.hold.ensures.answer c.hold.ensures.ok c.hold.ensures.unchanged
