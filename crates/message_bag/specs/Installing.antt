-- The frames of an installation: the first one encodes the receiver and the boot, and the others
-- only the tables.
use Rattle.std.specs.Prelude.{◌+◌, ◌∷◌, ◌≡◌, List, drop, length, true, ℕ}
use Rattle.base.specs.Exports.{div_ceil}
use Rattle.ctrl_msg.specs.declared.message.Place.{Place}
use Rattle.switch_table.specs.declared.tables.Tables.{Tables}
use Rattle.wire.specs.Fields as form
use Rattle.wire.specs.Exports.{wire_equal_chunks, frame, wire_frames_from, most_of_wire_chunk, wire_spelled_front}

-- the encoding of the tables, in as few chunks as possible
abbrev pub bag_table_chunks : Tables → List (List ℕ)
bag_table_chunks t =
    let bytes = form.tables.spell t in
    wire_equal_chunks (div_ceil (length bytes) most_of_wire_chunk) most_of_wire_chunk bytes

-- how many frames an installation of these tables has
abbrev pub bag_install_frame_count : Tables → ℕ
bag_install_frame_count t = length (bag_table_chunks t) + 1

-- the frames after the first one
abbrev pub bag_table_frames : Tables → List (List ℕ)
bag_table_frames t = wire_frames_from 1 (bag_install_frame_count t) (bag_table_chunks t)

abbrev pub bag_install_frames : Place → ℕ → Tables → List (List ℕ)
bag_install_frames to boot t = frame 0 (bag_install_frame_count t) (wire_spelled_front to boot) ∷ bag_table_frames t

-- after the first one these frames encode the tables
pub record AreBagFramesBehindFirst (t : Tables) (fs : List (List ℕ)) : Type 0 where
  pub fits : form.tables.fits t ≡ true
  pub are : drop 1 fs ≡ bag_table_frames t
