use Rattle.std.proofs.Common.{◌++◌, ◌∙◌, ◌≡◌, List, ap, arith, length, ℕ}
use Rattle.base.proofs.Exports.{common_steps, on_ok}
use Rattle.wire.specs.Exports.{wire_begun_for, frames}
use Rattle.message_bag.specs.Exports.{HasBagFrames, bag_frames_in}
use Rattle.message_bag.proofs.BagCopiedMessages.{AreLike, copied, found, has, long}
use Rattle.message_bag.proofs.BagPostedMessages.{kept_after, posted_after}
use Rattle.message_bag.proofs.bag.Bag.post_like.Goals as goal

pub set_wire_receiver-requires-clause-long : goal.set_wire_receiver-requires-clause-long
set_wire_receiver-requires-clause-long c = omega (
  arith,
  long c.self.inside.tables.items c.in-Some.frame.now c.in-Some.tables c.args.message.now
      (found c.self.inside.tables.items c.self.inside.firsts c.args.self.now c.args.number
      c.args.message.now _ c.self.invariant c.self.view_is c.requires.like c.in-Some.ensures.some),
  ap length (c.deref_mut.ensures.value ∙ c.in_ok-extend_from_slice.ensures.items
      ∙ ap (λ (b : List ℕ). b ++ c.in-Some.frame.now) c.clear.ensures.items),
)

like : (c : goal.After-push)
    → AreLike c.self.inside.tables.items (c.in-Some.frame.now, c.in-Some.tables) c.args.message.now
like c = found c.self.inside.tables.items c.self.inside.firsts c.args.self.now c.args.number
    c.args.message.now _ c.self.invariant c.self.view_is c.requires.like c.in-Some.ensures.some

has_frames : (c : goal.After-push) → HasBagFrames c.args.message.now
has_frames c = has c.self.inside.tables.items _ c.args.message.now (like c)
    c.set_wire_receiver.ensures.fits c.requires.spelling

its : (c : goal.After-push)
    → bag_frames_in c.self.inside.tables.items (c.deref.result.now, c.in-Some.tables) ≡ frames c.args.message.now
its c = let written : c.deref.result.now ≡ c.set_wire_receiver.new.frame = grind (arith, common_steps) in
    ap (λ (b : List ℕ). bag_frames_in c.self.inside.tables.items (b, c.in-Some.tables))
    (written ∙ c.set_wire_receiver.ensures.written
    ∙ ap (wire_begun_for c.args.message.now.to) (c.deref_mut.ensures.value ∙ c.in_ok-extend_from_slice.ensures.items
    ∙ ap (λ (b : List ℕ). b ++ c.in-Some.frame.now) c.clear.ensures.items))
    ∙ copied c.self.inside.tables.items c.in-Some.frame.now c.in-Some.tables c.args.message.now (like c)

pub invariant_of-self-2 : goal.invariant_of-self-2
invariant_of-self-2 c = kept_after c.args.message.now _ _ _ _ _ c.push.ensures (has_frames c) (its c)
    c.self.invariant (like c).there

pub returns-clause-fits : goal.returns-clause-fits
returns-clause-fits c = on_ok c.push.result (has_frames c).fits

pub returns-clause-posted : goal.returns-clause-posted
returns-clause-posted c = posted_after c.args.message.now _ _ _ _ _ c.push.ensures (has_frames c) (its c)
    c.args.self.now c.self.view_is
