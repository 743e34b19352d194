use Rattle.std.proofs.Common.{◌∙◌, ◌≡◌, Some}
use Rattle.wire.specs.Exports.{frames}
use Rattle.message_bag.specs.Exports.{HasBagFrames, bag_frames_in}
use Rattle.message_bag.proofs.BagNumberedPosts.{post_failed}
use Rattle.message_bag.proofs.BagPostedMessages.{all_stay, kept_after, posted_after, still_kept}
use Rattle.message_bag.proofs.bag.Bag.post_tables.Goals as goal

pub invariant_of-self : goal.invariant_of-self
invariant_of-self c =
    still_kept c.self.inside.tables.items c.spell_bag_install.new.kept.items c.self.inside.firsts c.spell_bag_install.ensures.grown c.self.invariant

pub returns-in_err-number-clause-posted : goal.returns-in_err-number-clause-posted
returns-in_err-number-clause-posted c = post_failed _ _ _ _ c.from_residual.ensures.0
    (all_stay c.self.inside.tables.items c.spell_bag_install.new.kept.items c.self.inside.firsts
    c.spell_bag_install.ensures.grown c.self.invariant ∙ c.self.view_is)

its : (c : goal.After-push)
    → bag_frames_in c.spell_bag_install.new.kept.items (c.deref.result.now, Some c.in_ok-number.number) ≡ frames c.args.message.now
its c = cc (c.deref.ensures.value, c.in_ok-number.ensures.own)

has : (c : goal.After-push) → HasBagFrames c.args.message.now
has c = record { fits = c.in_ok-number.ensures.fits; short = c.requires.spelling.short }

pub invariant_of-self-2 : goal.invariant_of-self-2
invariant_of-self-2 c = kept_after c.args.message.now _ _ _ _ _ c.push.ensures (has c) (its c)
    (still_kept c.self.inside.tables.items c.spell_bag_install.new.kept.items c.self.inside.firsts c.spell_bag_install.ensures.grown c.self.invariant)
    c.in_ok-number.ensures.there

pub returns-clause-posted : goal.returns-clause-posted
returns-clause-posted c = posted_after c.args.message.now _ _ _ _ _ c.push.ensures (has c) (its c)
    c.args.self.now (all_stay c.self.inside.tables.items c.spell_bag_install.new.kept.items c.self.inside.firsts
    c.spell_bag_install.ensures.grown c.self.invariant ∙ c.self.view_is)
