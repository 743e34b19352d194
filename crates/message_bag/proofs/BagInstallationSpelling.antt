-- An installation is spelled as its front and its tables.
use Rattle.std.proofs.Common.{[], ◌&&◌, ◌++◌, ◌+◌, ◌-◌, ◌∙◌, ◌∷◌, ◌≡◌, ◌≤◌, List, add-one, ap, append_assoc, arith, drop_at, length, length-append, refl, sym, take_at, true, ℕ}
use Rattle.base.proofs.Exports.{and_parts, div_ceil, div_ceil_times}
use Rattle.ctrl_msg.specs.declared.message.Place.{Place}
use Rattle.ctrl_msg.specs.declared.message.Place.TheVariants.{Switch, Controller}
use Rattle.ctrl_msg.specs.declared.message.Body.TheVariants.{Install}
use Rattle.switch_table.specs.declared.tables.Tables.{Tables}
use Rattle.wire.specs.Exports.{body, wire_chunks_behind_head, wire_equal_chunks, frame, frames, wire_frames_from, wire_frames_of, wire_install_form, wire_list_of, message, wire_message_front, most_of_wire_chunk, n1, n4, partition, wire_receiver, region, wire_spelled_front, wire_body_suits_receiver, tables}
use Rattle.wire.proofs.WireSpellingCuts.{length-slices}
use Rattle.wire.proofs.WireFrameBytes.{length_n4}
use Rattle.message_bag.specs.Exports.{bag_install_frame_count, bag_install_frames, bag_table_chunks, bag_table_frames}
use Rattle.message_bag.proofs.BagSpellingLengths.{length_kind, length_receiver}
use Rattle.message_bag.proofs.BagFrameSizes.{length_from}

spelled : (to : Place) (boot : ℕ) (t : Tables)
    → message.spell (record { to = to; body = Install boot t }) ≡ wire_spelled_front to boot ++ tables.spell t
unfolding message body wire_install_form wire_message_front
spelled to boot t =
    sym (append_assoc (wire_receiver.spell to) (n1.spell 1 ++ n4.spell boot) (tables.spell t)
    ∙ ap (λ u. wire_receiver.spell to ++ u) (append_assoc (n1.spell 1) (n4.spell boot) (tables.spell t)))

length_front : (to : Place) (boot : ℕ) → length (wire_spelled_front to boot) ≡ 6
unfolding wire_message_front
length_front to boot = omega (
  arith,
  length-append (wire_receiver.spell to) (n1.spell 1 ++ n4.spell boot),
  length-append (n1.spell 1) (n4.spell boot),
  length_receiver to,
  length_kind (Install boot (record { version = 0; parts = []; auth = [] })),
  length_n4 boot,
)

cut_behind : (head rest : List ℕ) → length head ≡ 6 → wire_chunks_behind_head 6 (head ++ rest)
    ≡ head ∷ wire_equal_chunks (div_ceil (length rest) most_of_wire_chunk) most_of_wire_chunk rest
cut_behind head rest len =
    let left : length (head ++ rest) - 6 ≡ length rest = omega (arith, length-append head rest) in
    rw (left, take_at head rest 6 len, drop_at head rest 6 len) refl

pub installed : (to : Place) (boot : ℕ) (t : Tables)
    → frames (record { to = to; body = Install boot t }) ≡ bag_install_frames to boot t
installed to boot t = ap wire_frames_of (ap (wire_chunks_behind_head 6) (spelled to boot t)
    ∙ cut_behind (wire_spelled_front to boot) (tables.spell t) (length_front to boot))
    ∙ ap (λ n. frame 0 n (wire_spelled_front to boot) ∷ wire_frames_from 1 n (bag_table_chunks t))
    (sym (add-one (length (bag_table_chunks t))))

-- ---- which installations have a spelling

pub fits_parts : (to : Place) (boot : ℕ) (t : Tables) → message.fits (record { to = to; body = Install boot t }) ≡ true
    → (wire_message_front.fits (to, (1, boot)) ≡ true) × (tables.fits t ≡ true)
    × (wire_body_suits_receiver to (Install boot t) ≡ true)
unfolding message body wire_install_form wire_message_front n1
fits_parts to boot t fits =
    let all = and_parts (wire_receiver.fits to && (n4.fits boot && tables.fits t))
    (wire_body_suits_receiver to (Install boot t)) fits in
    let parts = and_parts (wire_receiver.fits to) (n4.fits boot && tables.fits t) all.0 in
    let fields = and_parts (n4.fits boot) (tables.fits t) parts.1 in
    (rw (parts.0, fields.0) refl, fields.1, all.1)

pub fits_whole : (to : Place) (boot : ℕ) (t : Tables) → wire_message_front.fits (to, (1, boot)) ≡ true
    → tables.fits t ≡ true → wire_body_suits_receiver to (Install boot t) ≡ true
    → message.fits (record { to = to; body = Install boot t }) ≡ true
unfolding message body wire_install_form wire_message_front n1
fits_whole to boot t head rest is = let parts = and_parts (wire_receiver.fits to) (n4.fits boot) head in
    rw (parts.0, parts.1, rest, is) refl

-- it doesn't matter of which boot and which tables
pub suits_any : (to : Place) (i j : ℕ) (t u : Tables) → wire_body_suits_receiver to (Install i t)
    ≡ wire_body_suits_receiver to (Install j u)
suits_any (Switch s) i j t u = refl
suits_any Controller i j t u = refl

-- ---- how many frames there are

pub length_behind : (t : Tables) → length (bag_table_frames t) + 1 ≡ bag_install_frame_count t
length_behind t = ap (λ n. n + 1) (length_from 1 (bag_install_frame_count t) (bag_table_chunks t))

long_tables : (t : Tables) → 4 ≤ length (tables.spell t)
unfolding tables
long_tables t = omega (
  arith,
  length-append (n4.spell t.version) ((wire_list_of n4 region).spell t.parts ++ (wire_list_of n4 partition).spell t.auth),
  length_n4 t.version,
)

-- tables are never spelled in no bytes
pub some_behind : (t : Tables) → 1 ≤ length (bag_table_frames t)
some_behind t = let bytes = tables.spell t in
    omega (
      arith,
      length_from 1 (bag_install_frame_count t) (bag_table_chunks t),
      length-slices (div_ceil (length bytes) most_of_wire_chunk) most_of_wire_chunk bytes,
      div_ceil_times (length bytes) most_of_wire_chunk (omega arith),
      long_tables t,
    )
