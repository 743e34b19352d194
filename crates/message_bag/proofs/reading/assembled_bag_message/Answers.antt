use Rattle.std.proofs.Common.{◌∙◌, IfSome, ap, arith, is_some, refl, subst, sym}
use Rattle.base.proofs.Exports.{false_not_true}
use Rattle.wire.specs.Exports.{AreWireFrames}
use Rattle.message_bag.proofs.BagMessagesOut.{begins, comes_out, goes_on, never_past, never_short, not_refused}
use Rattle.message_bag.proofs.reading.assembled_bag_message.Goals as goal

pub loop-place-init : goal.loop-place-init
loop-place-init c = (
  c.requires.0,
  begins c.args.first.now c.args.frames.now c.new-assembler.result c.requires c.new-assembler.ensures,
)

pub feed-requires : goal.feed-requires
feed-requires c = let i = c.loop-place.invariant in
    not_refused c.args.first.now c.args.frames.now c.loop-place.assembler c.loop-place.frame.now
    c.loop-place.place i.0 i.1

pub returns-in-Some : goal.returns-in-Some
returns-in-Some c = let i = c.loop-place.invariant in
    comes_out c.args.first.now c.args.frames.now c.loop-place.assembler c.feed.new.assembler
    c.loop-place.frame.now c.loop-place.place i.0 c.in-Some.message i.1 c.in_ok-message.ensures.held
    (c.in_ok-message.ensures.some.0 (ap is_some c.in-Some.is))
    (subst (λ o. IfSome o (λ m. AreWireFrames m c.feed.new.assembler)) c.in-Some.is c.in_ok-message.ensures.message)

pub unreachable-requires : goal.unreachable-requires
unreachable-requires c = let i = c.loop-place.invariant in
    never_short c.args.first.now c.args.frames.now c.loop-place.assembler c.feed.new.assembler
    c.loop-place.frame.now c.loop-place.place i.0 i.1 c.in_ok-message.ensures.held
    (λ all. false_not_true (sym (ap is_some c.in_default.is) ∙ c.in_ok-message.ensures.some.1 all))
    (c.in-None.ensures.none.0 refl)

pub loop-place-preserved : goal.loop-place-preserved
loop-place-preserved c = let i = c.loop-place.invariant in (
  i.0,
  goes_on c.args.first.now c.args.frames.now c.loop-place.assembler c.feed.new.assembler
      c.loop-place.frame.now c.in-Some-get.next.now c.loop-place.place i.0 i.1
      c.in_ok-message.ensures.held c.in-Some-get.ensures.frame,
)

pub unreachable-requires-2 : goal.unreachable-requires-2
unreachable-requires-2 c = let i = c.loop-place.invariant in
    never_past c.args.first.now c.args.frames.now c.loop-place.assembler c.loop-place.frame.now
    c.loop-place.place i.0 i.1 (omega arith)
