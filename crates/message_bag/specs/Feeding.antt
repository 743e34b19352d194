-- Frames of a message with which an assembler is fed, one after another.
use Rattle.std.specs.Prelude.{[], ◌<◌, ◌^◌, ◌∷◌, ◌≡◌, All, Contains, List, length, true, ℕ}
use Rattle.ctrl_msg.specs.declared.message.Message.{Message}
use Rattle.wire.specs.Exports.{HasWireSpelling, frames, message, wire_frames_with_frame}

-- a message that is sent in frames: it has an encoding, of fewer than 2^40 bytes
pub record HasBagFrames (m : Message) : Type 0 where
  pub fits : message.fits m ≡ true
  pub short : length (message.spell m) < 2 ^ 40

-- what a message needs so that it has such an encoding: each number fits the bytes of its type
pub record HasShortBagSpelling (m : Message) : Type 0 where
  pub spelling : HasWireSpelling m
  pub short : length (message.spell m) < 2 ^ 40

-- each of these is a frame of the message, in any order and any number of times
abbrev pub AreBagFramesOf : Message → List (List ℕ) → Type 0
AreBagFramesOf m fed = All (Contains (frames m)) fed

-- each frame of the message is among these
abbrev pub AreBagFramesAllFed : Message → List (List ℕ) → Type 0
AreBagFramesAllFed m fed = All (Contains fed) (frames m)

-- the frames of an assembler that was fed with these, the newest first, and refused none
abbrev pub bag_frames_held_after : List (List ℕ) → List (List ℕ)
bag_frames_held_after [] = []
bag_frames_held_after (f ∷ fed) = wire_frames_with_frame (bag_frames_held_after fed) f
