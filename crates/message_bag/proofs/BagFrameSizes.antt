-- The frames of a message: of one count, at rising places, and none is empty or too long.
use Rattle.std.proofs.Common.{[], ◌&&◌, ◌*◌, ◌+◌, ◌-◌, ◌<◌, ◌^◌, ◌∙◌, ◌∷◌, ◌≡◌, ◌≤◌, All, List, None, ap, arith, drop, length, length-drop, length-take, refl, subst, suc, sym, take, true, zero, ℕ}
use Rattle.base.proofs.Exports.{All-from_recursion, AllByRecursion, and_parts, div_ceil, div_ceil_times}
use Rattle.ctrl_msg.specs.declared.message.Body.{Body}
use Rattle.ctrl_msg.specs.declared.message.Body.TheVariants.{Install, Stamp}
use Rattle.ctrl_msg.specs.declared.message.Message.{Message}
use Rattle.wire.specs.Fields as form
use Rattle.wire.specs.Exports.{AreWireFramesRising, IsWireFrameOfCount, body, wire_chunks, wire_equal_chunks, wire_fields_fit, frame, frames, wire_frames_from, wire_first_chunk_len, message, most_of_wire_chunk, n4, place_in_wire_frame, wire_receiver, wire_spelled_fields, wire_stamp_form, wire_body_suits_receiver}
use Rattle.wire.proofs.WireFrameBytes.{length_frame, place_of_frame, count_of_frame, chunk_of_frame}
use Rattle.wire.proofs.WireSpellingCuts.{few_chunks}
use Rattle.message_bag.specs.Exports.{HasBagFrames, bag_tables_version}
use Rattle.message_bag.proofs.BagSpellingLengths.{length_message, fields_short, install_long, stamp_short, few_words}

-- ---- places and counts

pub few_frames : (m : Message) → HasBagFrames m → length (wire_chunks m) < 2 ^ 32
few_frames m has = few_chunks (wire_first_chunk_len m.body (message.spell m)) (message.spell m) has.short

rising : (place count : ℕ) (parts : List (List ℕ)) → place + length parts ≡ count → count < 2 ^ 32
    → AreWireFramesRising place count (wire_frames_from place count parts)
rising place count [] all few = tt
rising place count (part ∷ parts) all few =
    let at : place_in_wire_frame (frame place count part) ≡ place = place_of_frame place count part (omega arith) in
    let of : IsWireFrameOfCount count (frame place count part) = record {
      below = omega arith;
      whole = ap (λ p. frame p count part) (sym at)
          ∙ ap (frame (place_in_wire_frame (frame place count part)) count)
          (sym (chunk_of_frame place count part));
      count_is = count_of_frame place count part few;
    } in (
      omega arith,
      of,
      subst (λ p. AreWireFramesRising (p + 1) count (wire_frames_from (place + 1) count parts)) (sym at)
          (rising (place + 1) count parts (omega arith) few),
    )

-- the frames of a message have rising places
pub frames_rise : (m : Message) → HasBagFrames m → AreWireFramesRising 0 (length (wire_chunks m)) (frames m)
frames_rise m has = rising 0 (length (wire_chunks m)) (wire_chunks m) (omega arith) (few_frames m has)

pub length_from : (place count : ℕ) (parts : List (List ℕ)) → length (wire_frames_from place count parts) ≡ length parts
length_from place count [] = refl
length_from place count (part ∷ parts) = ap suc (length_from (place + 1) count parts)

pub length_frames : (m : Message) → length (frames m) ≡ length (wire_chunks m)
length_frames m = length_from 0 (length (wire_chunks m)) (wire_chunks m)

-- ---- lengths

pub record IsSized (f : List ℕ) : Type 0 where
  pub long : 9 ≤ length f
  pub short : length f ≤ 16384

-- a chunk of a frame
record IsChunk (part : List ℕ) : Type 0 where
  pub some : 1 ≤ length part
  pub short : length part ≤ 16376

slices_are : (count : ℕ) (bytes : List ℕ) → count * most_of_wire_chunk < length bytes + most_of_wire_chunk
    → AllByRecursion IsChunk (wire_equal_chunks count most_of_wire_chunk bytes)
slices_are zero bytes enough = tt
slices_are (suc count) bytes enough =
    let first : IsChunk (take most_of_wire_chunk bytes) = record {
      some = omega (arith, length-take most_of_wire_chunk bytes);
      short = omega (arith, length-take most_of_wire_chunk bytes);
    } in (
      first,
      slices_are count (drop most_of_wire_chunk bytes) (omega (arith, length-drop most_of_wire_chunk bytes)),
    )

all_of : (b : Body) (bytes : List ℕ) → length (wire_spelled_fields b) ≤ 521
    → length bytes ≡ 2 + length (wire_spelled_fields b) → IsChunk (take (length bytes) bytes)
all_of b bytes short long = record {
  some = omega (arith, length-take (length bytes) bytes);
  short = omega (arith, length-take (length bytes) bytes, short);
}

-- what fits and has no tables is short: of a stamp the version and its list
fits_short : (b : Body) → bag_tables_version b ≡ None → wire_fields_fit b ≡ true
    → length (wire_spelled_fields b) ≤ 521
unfolding wire_stamp_form
fits_short (Install boot t) alone fits = absurd cc
fits_short (Stamp boot version touched) alone fits =
    let rest = (and_parts (n4.fits boot) (n4.fits version && form.touched.fits touched) fits).1 in
    stamp_short boot version touched
    (few_words touched (and_parts (n4.fits version) (form.touched.fits touched) rest).1)
fits_short b alone fits = omega (arith, fields_short b refl)

head_is : (b : Body) (bytes : List ℕ) → wire_fields_fit b ≡ true
    → length bytes ≡ 2 + length (wire_spelled_fields b) → IsChunk (take (wire_first_chunk_len b bytes) bytes)
head_is (Install boot t) bytes fits long = record {
  some = omega (arith, length-take 6 bytes, install_long boot t);
  short = omega (arith, length-take 6 bytes);
}
head_is b bytes fits long = all_of b bytes (fits_short b refl fits) long

pub fields_of_message : (m : Message) → message.fits m ≡ true → wire_fields_fit m.body ≡ true
unfolding message body
fields_of_message m fits = (and_parts (wire_receiver.fits m.to) (wire_fields_fit m.body)
    (and_parts (wire_receiver.fits m.to && wire_fields_fit m.body) (wire_body_suits_receiver m.to m.body) fits).0).1

chunks_are : (m : Message) → message.fits m ≡ true → AllByRecursion IsChunk (wire_chunks m)
chunks_are m fits =
    let bytes = message.spell m in
    let rest = length bytes - wire_first_chunk_len m.body bytes in (
      head_is m.body bytes (fields_of_message m fits) (length_message m),
      slices_are (div_ceil rest most_of_wire_chunk) (drop (wire_first_chunk_len m.body bytes) bytes) (omega (
        arith,
        length-drop (wire_first_chunk_len m.body bytes) bytes,
        (div_ceil_times rest most_of_wire_chunk (omega arith)).1,
      )),
    )

sized : (place count : ℕ) (parts : List (List ℕ)) → AllByRecursion IsChunk parts
    → AllByRecursion IsSized (wire_frames_from place count parts)
sized place count [] are = tt
sized place count (part ∷ parts) are =
    let one : IsSized (frame place count part) = record {
      long = omega (arith, length_frame place count part, are.0.some);
      short = omega (arith, length_frame place count part, are.0.short);
    } in
    (one, sized (place + 1) count parts are.1)

pub frames_sized : (m : Message) → message.fits m ≡ true → All IsSized (frames m)
frames_sized m fits =
    All-from_recursion IsSized (frames m) (sized 0 (length (wire_chunks m)) (wire_chunks m) (chunks_are m fits))
