-- What is taken out of the frames is the message of the number.
use Rattle.std.proofs.Common.{◌<◌, ◌↔◌, ◌∙◌, ◌≡◌, ◌⊎◌, Err, IfOk, IfSome, IsNone, List, None, Ok, Option, Result, Some, ap, arith, inl, inr, is_some, length, refl, sym, true, zip, ℕ}
use Rattle.ctrl_msg.specs.declared.message.Message.{Message}
use Rattle.message_bag.specs.Exports.{IsBagMessageOf, IsPostedInBag, is_bag_post_deliverable}
use Rattle.wire.specs.Exports.{frames}
use Rattle.message_bag.specs.Deliveries as statuses
use Rattle.message_bag.specs.declared.deliveries.MessageState.{MessageState}
use Rattle.message_bag.proofs.BagFramedMessages.{framed_is}
use Rattle.message_bag.proofs.BagFramesByStatus.{deliverable_same, deliverable_within, the_frames}

module _ {E : Type 0} (all : List (List (List ℕ))) (states : List MessageState) (number : ℕ)
    (same : length all ≡ length states)
    (is : statuses.is_deliverable states number ≡ true) where
  -- a message that isn't forgotten is there
  pub found_known : (r : Result (Option Message) E)
      → IfOk r (λ answer. IsNone answer ↔ ((number ≡ 0) ⊎ (length all < number)))
      → IfOk r (λ answer. is_some answer ≡ is_bag_post_deliverable (zip all states) number)
  found_known (Err error) none = tt
  found_known (Ok (Some message)) none = sym is ∙ deliverable_same all states number same
  found_known (Ok None) none = let within = deliverable_within states number is in
      elim (none.0 refl) [
        | inl zero_is ↦ absurd (omega (arith, zero_is, within.0))
        | inr past ↦ absurd (omega (arith, past, within.1, same))
      ]

  -- and has the frames of its number
  pub found_there : (r : Result (Option Message) E)
      → IfOk r (λ answer. IfSome answer (λ message. IsPostedInBag all number message))
      → IfOk r (λ answer. IfSome answer (IsBagMessageOf (zip all states) number))
  found_there (Err error) found = tt
  found_there (Ok None) found = tt
  found_there (Ok (Some message)) found = record {
    fits = found.fits;
    frames_are = the_frames all states number (frames message) is found.posted
        ∙ ap Some (sym (framed_is message found.fits));
  }
