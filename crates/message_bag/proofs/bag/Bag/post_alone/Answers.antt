use Rattle.std.proofs.Common.{[], ◌++◌, ◌∙◌, ◌∷◌, ◌≡◌, List, None, ap, ℕ}
use Rattle.wire.specs.Exports.{frames, message}
use Rattle.message_bag.specs.Exports.{HasBagFrames, bag_frames_in}
use Rattle.message_bag.proofs.BagPostedMessages.{alone_is, kept_after, posted_after}
use Rattle.message_bag.proofs.bag.Bag.post_alone.Goals as goal

its : (c : goal.After-push)
    → bag_frames_in c.self.inside.tables.items (c.deref.result.now, None) ≡ frames c.args.message.now
its c =
    alone_is c.args.message.now c.self.inside.tables.items c.deref.result.now
    c.requires.message_of_frame
    (c.deref.ensures.value ∙ c.in_ok-append.ensures.spelled
    ∙ ap (λ (b : List ℕ). b ++ message.spell c.args.message.now)
    (c.in_ok-extend_from_slice.ensures.items ∙ ap (λ (b : List ℕ). b ++ (0 ∷ 0 ∷ 0 ∷ 0 ∷ 0 ∷ 0 ∷ 0 ∷ 1 ∷ [])) c.clear.ensures.items))

has : (c : goal.After-push) → HasBagFrames c.args.message.now
has c = record { fits = c.in_ok-append.ensures.fits; short = c.requires.spelling.short }

pub invariant_of-self-2 : goal.invariant_of-self-2
invariant_of-self-2 c = kept_after c.args.message.now _ _ _ _ _ c.push.ensures (has c) (its c) c.self.invariant tt

pub returns-clause-posted : goal.returns-clause-posted
returns-clause-posted c =
    posted_after c.args.message.now _ _ _ _ _ c.push.ensures (has c) (its c) c.args.self.now c.self.view_is
