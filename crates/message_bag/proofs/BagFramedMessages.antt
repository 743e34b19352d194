-- A message is known by its frames, for proofs of the crates above too.
use Rattle.std.proofs.Common.{[], if◌then◌else◌, ◌∙◌, ◌≡◌, Bool, false, refl, sym, true}
use Rattle.ctrl_msg.specs.declared.message.Message.{Message}
use Rattle.message_bag.proofs.BagFrameArrivals.{same_message}
use Rattle.wire.specs.Exports.{frames, message as form}
use Rattle.message_bag.specs.Exports.{bag_posted_frames}

-- of a message that has a spelling they are its frames
pub framed_is : (m : Message) → form.fits m ≡ true → bag_posted_frames m ≡ frames m
unfolding bag_posted_frames
framed_is m fits = rw fits refl

pub known_by_frames : (m other : Message) → form.fits m ≡ true → bag_posted_frames other
    ≡ bag_posted_frames m → other ≡ m
unfolding bag_posted_frames
known_by_frames m other fits same = by_fit (form.fits other) refl (same ∙ framed_is m fits) where
  by_fit : (b : Bool) → form.fits other ≡ b → (if b then frames other else []) ≡ frames m
      → other ≡ m
  by_fit true is are = same_message m other (frames m) (record { fits = fits; frames_are = refl })
      (record { fits = is; frames_are = sym are })
  by_fit false is none = absurd (cc none)
