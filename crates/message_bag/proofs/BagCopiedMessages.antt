-- A message that is posted as a copy of the same one to another receiver.
use Rattle.std.proofs.Common.{[], ◌-◌, ◌∙◌, ◌≡◌, ◌≤◌, All, List, None, Option, Some, ap, arith, drop, get_or, length, map, option_map, refl, slice_get, subst, suc, sym, true, zero, ℕ}
use Rattle.base.proofs.Exports.{All-head, IfSome-at_place, none-some, same_Some, slice_get-map}
use Rattle.ctrl_msg.specs.declared.message.Message.{Message}
use Rattle.ctrl_msg.specs.declared.message.Place.{Place}
use Rattle.wire.specs.Exports.{wire_begun_for, body, frames, wire_frames_of_receiver, message as form, wire_receiver}
use Rattle.message_bag.proofs.BagFramedMessages.{framed_is, known_by_frames}
use Rattle.message_bag.proofs.BagFramesOfReceivers.{of_another_receiver}
use Rattle.message_bag.proofs.BagFrameSizes.{IsSized, fields_of_message, frames_sized}
use Rattle.message_bag.specs.Exports.{AreBagKeptFrames, BagFirst, HasBagFrames, HasShortBagSpelling, IsBagPostLike, IsBagNumberThere, bag_frames_in, bag_posted_frames}

-- these are the frames of the message, perhaps to another receiver
pub record AreLike (kept : List (List (List ℕ))) (first : BagFirst) (m : Message) : Type 0 where
  pub to : Place
  pub there : IsBagNumberThere kept first.1
  pub has : HasBagFrames (record m { to = to })
  pub are : bag_frames_in kept first ≡ frames (record m { to = to })

known : (kept : List (List (List ℕ))) (first : BagFirst) (m : Message) (to : Place) → AreBagKeptFrames kept first
    → bag_frames_in kept first ≡ bag_posted_frames (record m { to = to }) → AreLike kept first m
known kept first m to is same =
    let its = is.are in
    let other : record m { to = to } ≡ its.0 = known_by_frames its.0 (record m { to = to })
    its.1.fits (sym same ∙ its.2 ∙ sym (framed_is its.0 its.1.fits)) in record {
      to = to;
      there = is.there;
      has = subst HasBagFrames (sym other) its.1;
      are = its.2 ∙ ap frames (sym other);
    }

pub found : (kept : List (List (List ℕ))) (firsts : List BagFirst) (bag : List (List (List ℕ))) (number : ℕ) (m : Message) (first : BagFirst)
    → All (AreBagKeptFrames kept) firsts → map (bag_frames_in kept) firsts ≡ bag → IsBagPostLike bag number m
    → slice_get firsts (number - 1) ≡ Some first → AreLike kept first m
found kept firsts bag zero m first all view like at = absurd (none-some (bag_posted_frames (record m { to = like.0 })) like.1)
found kept firsts bag (suc place) m first all view like at =
    let here : slice_get firsts place ≡ Some first = ap (slice_get firsts) (omega arith) ∙ at in
    known kept first m like.0
    (IfSome-at_place (AreBagKeptFrames kept) firsts place (Some first) all here)
    (same_Some _ _ (sym (slice_get-map (bag_frames_in kept) firsts place ∙ ap (option_map (bag_frames_in kept)) here)
    ∙ ap (λ (b : List (List (List ℕ))). slice_get b place) view ∙ like.1))

first_of : (kept : List (List (List ℕ))) (bytes : List ℕ) (tables : Option ℕ) (to : Place)
    → bag_frames_in kept (wire_begun_for to bytes, tables) ≡ wire_frames_of_receiver to (bag_frames_in kept (bytes, tables))
first_of kept bytes None to = refl
first_of kept bytes (Some number) to = refl

-- a copy of its first frame begins with the receiver
pub copied : (kept : List (List (List ℕ))) (bytes : List ℕ) (tables : Option ℕ) (m : Message)
    → AreLike kept (bytes, tables) m → bag_frames_in kept (wire_begun_for m.to bytes, tables) ≡ frames m
copied kept bytes tables m like =
    first_of kept bytes tables m.to ∙ ap (wire_frames_of_receiver m.to) like.are
    ∙ sym (of_another_receiver (record m { to = like.to }) m.to)

pub long : (kept : List (List (List ℕ))) (bytes : List ℕ) (tables : Option ℕ) (m : Message)
    → AreLike kept (bytes, tables) m → 9 ≤ length bytes
long kept bytes tables m like =
    by_tables tables (subst (All IsSized) (sym like.are) (frames_sized (record m { to = like.to }) like.has.fits))
  where
    by_tables : (o : Option ℕ) → All IsSized (bag_frames_in kept (bytes, o)) → 9 ≤ length bytes
    by_tables None sized = (All-head IsSized bytes [] sized).long
    by_tables (Some number) sized = (All-head IsSized bytes (drop 1 (get_or kept number [])) sized).long

pub has : (kept : List (List (List ℕ))) (first : BagFirst) (m : Message) → AreLike kept first m
    → wire_receiver.fits m.to ≡ true → HasShortBagSpelling m → HasBagFrames m
unfolding form body
has kept first m like to short = record {
  fits = rw (to, fields_of_message (record m { to = like.to }) like.has.fits, short.spelling.suits) refl;
  short = short.short;
}
