-- How the encoding of a message is cut into frames.
use Rattle.std.specs.Prelude.{[], ◌++◌, ◌+◌, ◌-◌, ◌∷◌, ◌≡◌, List, drop, length, slice_index_or, slice_set, suc, take, true, zero, ℕ}
use Rattle.base.specs.Exports.{div_ceil, from_be_bytes, w32}
use Rattle.ctrl_msg.specs.declared.message.Body.{Body}
use Rattle.ctrl_msg.specs.declared.message.Body.TheVariants.{Install}
use Rattle.ctrl_msg.specs.declared.message.Message.{Message}
use Rattle.ctrl_msg.specs.declared.message.Place.{Place}
use Rattle.wire.specs.Fields.{n4}
use Rattle.wire.specs.Messages.{message, wire_receiver}

-- the most bytes of a chunk: a frame has 16,384 at most, and 8 of them say where its chunk belongs
abbrev pub most_of_wire_chunk : ℕ
most_of_wire_chunk = 16376

-- this many slices, of n bytes each as long as there are that many
abbrev pub wire_equal_chunks : ℕ → ℕ → List ℕ → List (List ℕ)
wire_equal_chunks zero n bytes = []
wire_equal_chunks (suc count) n bytes = take n bytes ∷ wire_equal_chunks count n (drop n bytes)

-- a head of this many bytes, and the rest in as few chunks as possible
abbrev pub wire_chunks_behind_head : ℕ → List ℕ → List (List ℕ)
wire_chunks_behind_head head bytes =
    take head bytes
    ∷ wire_equal_chunks (div_ceil (length bytes - head) most_of_wire_chunk) most_of_wire_chunk (drop head bytes)

-- for an installation the receiver, the kind and the boot, so that its other chunks encode only
-- the tables; for any other message everything
abbrev pub wire_first_chunk_len : Body → List ℕ → ℕ
wire_first_chunk_len (Install _ _) bytes = 6
wire_first_chunk_len _ bytes = length bytes

abbrev pub wire_chunks : Message → List (List ℕ)
wire_chunks m = let bytes = message.spell m in wire_chunks_behind_head (wire_first_chunk_len m.body bytes) bytes

-- the place of a chunk, how many there are, and the chunk
unfoldable pub frame : ℕ → ℕ → List ℕ → List ℕ
frame place count chunk = n4.spell place ++ n4.spell count ++ chunk

-- the frames of chunks at the places from this one on
abbrev pub wire_frames_from : ℕ → ℕ → List (List ℕ) → List (List ℕ)
wire_frames_from place count [] = []
wire_frames_from place count (chunk ∷ others) =
    frame place count chunk ∷ wire_frames_from (place + 1) count others

abbrev pub wire_frames_of : List (List ℕ) → List (List ℕ)
wire_frames_of parts = wire_frames_from 0 (length parts) parts

abbrev pub frames : Message → List (List ℕ)
frames m = wire_frames_of (wire_chunks m)

-- the message has an encoding, and these are its frames
pub record AreWireFrames (m : Message) (fs : List (List ℕ)) : Type 0 where
  pub fits : message.fits m ≡ true
  pub frames_are : fs ≡ frames m

-- ---- the same tables under another version

-- the frame whose chunk begins with the four bytes of this version
abbrev pub wire_frame_begun_with : ℕ → List ℕ → List ℕ
wire_frame_begun_with version bytes = take 8 bytes ++ n4.spell version ++ drop 12 bytes

-- the frames of an installation of the same tables under this version: the chunk of the second one
-- begins with the version
abbrev pub wire_frames_of_version : ℕ → List (List ℕ) → List (List ℕ)
wire_frames_of_version version fs = slice_set fs 1 (wire_frame_begun_with version (slice_index_or fs 1 []))

-- ---- the same message to another receiver

-- the frame whose chunk begins with the one byte of this receiver
abbrev pub wire_begun_for : Place → List ℕ → List ℕ
wire_begun_for to bytes = take 8 bytes ++ wire_receiver.spell to ++ drop 9 bytes

-- the frames of the same message to this receiver: the first one begins with it
abbrev pub wire_frames_of_receiver : Place → List (List ℕ) → List (List ℕ)
wire_frames_of_receiver to fs = slice_set fs 0 (wire_begun_for to (slice_index_or fs 0 []))

-- ---- the parts of a frame

unfoldable pub place_in_wire_frame : List ℕ → ℕ
place_in_wire_frame bytes = from_be_bytes w32 (take 4 bytes)

unfoldable pub count_in_wire_frame : List ℕ → ℕ
count_in_wire_frame bytes = from_be_bytes w32 (take 4 (drop 4 bytes))

abbrev pub chunk_in_wire_frame : List ℕ → List ℕ
chunk_in_wire_frame bytes = drop 8 bytes
