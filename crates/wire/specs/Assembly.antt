-- What an assembler of frames keeps, and what it refuses.
use Rattle.std.specs.Prelude.{[], ◌++◌, ◌+◌, ◌<◌, ◌==◌, ◌↔◌, ◌∷◌, ◌≡◌, ◌≢◌, ◌≤◌, Bool, Err, IfErr, IfOk, IfSome, IsSome, List, None, Ok, OnErr, OnOk, Option, Result, Some, false, filter, find, insert, length, nat_lt, true, ℕ}
use Rattle.ctrl_msg.specs.declared.message.Message.{Message}
use Rattle.wire.specs.declared.assembler.FrameCheck.{FrameCheck}
use Rattle.wire.specs.declared.assembler.FrameCheck.TheVariants.{Refused, Held, New}
use Rattle.base.specs.Exports.{IfRefused}
use Rattle.base.specs.declared.error.Failure.{Failure}
use Rattle.wire.specs.declared.error.Malformed.{Malformed}
use Rattle.wire.specs.Frames.{AreWireFrames, place_in_wire_frame, count_in_wire_frame, chunk_in_wire_frame, frame}

-- the frame at a place
abbrev pub wire_frame_held_at : List (List ℕ) → ℕ → Option (List ℕ)
wire_frame_held_at held place = find (λ f. place_in_wire_frame f == place) held

-- a frame is added: after those of lower places, and before those of higher ones
abbrev pub wire_frames_with_frame : List (List ℕ) → List ℕ → List (List ℕ)
wire_frames_with_frame held f =
    filter (λ g. nat_lt (place_in_wire_frame g) (place_in_wire_frame f)) held
    ++ f ∷ filter (λ g. nat_lt (place_in_wire_frame f) (place_in_wire_frame g)) held

-- there is a frame at each place below the count
abbrev pub AreWireFramesHeld : List (List ℕ) → ℕ → Type 0
AreWireFramesHeld held count = (place : ℕ) → place < count → IsSome (wire_frame_held_at held place)

-- why a frame is refused
pub data IsRefusedWireFrame (held : List (List ℕ)) (f : List ℕ) : Type 0 where
  too_short : length f < 9 → IsRefusedWireFrame held f
  too_long : 16384 < length f → IsRefusedWireFrame held f
  past_the_count : count_in_wire_frame f ≤ place_in_wire_frame f → IsRefusedWireFrame held f
  another_count : (place : ℕ) (g : List ℕ) → wire_frame_held_at held place ≡ Some g
      → count_in_wire_frame g ≢ count_in_wire_frame f → IsRefusedWireFrame held f
  another_frame : (g : List ℕ) → wire_frame_held_at held (place_in_wire_frame f) ≡ Some g → g ≢ f → IsRefusedWireFrame held f
  no_message : AreWireFramesHeld (wire_frames_with_frame held f) (count_in_wire_frame f)
      → ((m : Message) → AreWireFrames m (wire_frames_with_frame held f) → ⊥) → IsRefusedWireFrame held f

-- ---- what is true of the frames that it has

-- a frame of this count, whose place is below it
pub record IsWireFrameOfCount (count : ℕ) (f : List ℕ) : Type 0 where
  pub below : place_in_wire_frame f < count
  pub whole : f ≡ frame (place_in_wire_frame f) count (chunk_in_wire_frame f)
  pub count_is : count_in_wire_frame f ≡ count

-- frames of one count, at rising places from this one on
abbrev pub AreWireFramesRising : ℕ → ℕ → List (List ℕ) → Type 0
AreWireFramesRising from count [] = Unit {0}
AreWireFramesRising from count (f ∷ fs) =
    (from ≤ place_in_wire_frame f) × IsWireFrameOfCount count f × AreWireFramesRising (place_in_wire_frame f + 1) count fs

-- the frames are of one count, at rising places
abbrev pub AreWireFramesTogether : List (List ℕ) → Type 0
AreWireFramesTogether [] = Unit {0}
AreWireFramesTogether (f ∷ fs) = AreWireFramesRising 0 (count_in_wire_frame f) (f ∷ fs)

-- ---- what an assembler returns

-- as many frames as their count, which are the frames of no message
abbrev pub AreNoWireMessageFrames : List (List ℕ) → ℕ → Type 0
AreNoWireMessageFrames fs count = (length fs ≡ count) × ((m : Message) → AreWireFrames m fs → ⊥)

-- the result for frames that have all come
abbrev pub IsWireMessageWhole : List (List ℕ) → Result Message (Failure Malformed) → Type 0
IsWireMessageWhole fs (Ok m) = AreWireFrames m fs
IsWireMessageWhole fs (Err error) = IfRefused (λ _. AreNoWireMessageFrames fs (length fs)) error

-- the result for the frames of a count
abbrev pub IsWireMessageAssembled : List (List ℕ) → ℕ → Result (Option Message) (Failure Malformed) → Type 0
IsWireMessageAssembled fs count (Ok None) = length fs ≢ count
IsWireMessageAssembled fs count (Ok (Some m)) = (length fs ≡ count) × AreWireFrames m fs
IsWireMessageAssembled fs count (Err error) = IfRefused (λ _. AreNoWireMessageFrames fs count) error

-- the frames are of this count, or one of them isn't
abbrev pub WireFramesAgree : List (List ℕ) → ℕ → Bool → Type 0
WireFramesAgree held count true = AreWireFramesRising 0 count held
WireFramesAgree held count false =
    (place : ℕ) × (g : List ℕ) × (wire_frame_held_at held place ≡ Some g) × (count_in_wire_frame g ≢ count)

-- a frame that can be added to those that have come
pub record WireFrameJoins (held : List (List ℕ)) (f : List ℕ) : Type 0 where
  pub long : 9 ≤ length f
  pub short : length f ≤ 16384
  pub below : place_in_wire_frame f < count_in_wire_frame f
  pub rising : AreWireFramesRising 0 (count_in_wire_frame f) held
  pub same : (g : List ℕ) → wire_frame_held_at held (place_in_wire_frame f) ≡ Some g → g ≡ f

-- where a frame belongs among those that have come: nowhere, at the place where it already is, or
-- before the frame of this index
abbrev pub IsWireFrameCheck : List (List ℕ) → List ℕ → FrameCheck → Type 0
IsWireFrameCheck held f Refused = IsRefusedWireFrame held f
IsWireFrameCheck held f Held = WireFrameJoins held f × (wire_frames_with_frame held f ≡ held)
IsWireFrameCheck held f (New index) =
    WireFrameJoins held f × (index ≤ length held) × (wire_frames_with_frame held f ≡ insert held index f)
    × AreWireFramesRising 0 (count_in_wire_frame f) (insert held index f)

-- the result of feeding a frame, and the frames after it
pub record IsWireAssemblerFed (held : List (List ℕ)) (f : List ℕ) (after : List (List ℕ))
    (result : Result (Option Message) (Failure Malformed)) : Type 0 where
  pub together : AreWireFramesTogether after
  pub refused : IfErr result (IfRefused (λ _. IsRefusedWireFrame held f))
  pub taken : OnOk result (IsRefusedWireFrame held f → ⊥)
  pub is_held : OnOk result (after ≡ wire_frames_with_frame held f)
  pub some : IfOk result (λ answer. IsSome answer ↔ AreWireFramesHeld after (count_in_wire_frame f))
  pub message : IfOk result (λ answer. IfSome answer (λ m. AreWireFrames m after))
  pub unchanged : OnErr result (after ≡ held)
