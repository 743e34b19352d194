-- Frames of one count at rising places: when they are all there, and which message they are of.
use Rattle.std.proofs.Common.{[], ◌*◌, ◌++◌, ◌+◌, ◌-◌, ◌∙◌, ◌∷◌, ◌≡◌, ◌≤◌, List, ap, arith, drop, flat_map, length, length-drop, map, refl, subst, suc, sym, take, take-add, take-append-drop, take_all, zero, zero-mul, ℕ}
use Rattle.base.proofs.Exports.{IfRefused-weaker, div_ceil, div_ceil_times, length-map}
use Rattle.ctrl_msg.specs.declared.message.Message.{Message}
use Rattle.wire.specs.Exports.{AreWireFrames, AreNoWireMessageFrames, AreWireFramesRising, IsWireSpelling, chunk_in_wire_frame, wire_chunks, wire_chunks_behind_head, wire_equal_chunks, frame, wire_frames_from, wire_frames_of, wire_first_chunk_len, message, most_of_wire_chunk, place_in_wire_frame}
use Rattle.base.specs.Exports.{IfRefused}
use Rattle.base.specs.declared.error.Failure.{Failure}
use Rattle.wire.specs.declared.error.Malformed.{Malformed}
use Rattle.wire.proofs.WireFrameBytes.{chunks_of_frames}
use Rattle.wire.proofs.WireDecoding.{one_message}

-- ---- the chunks of a spelling are all of it

abbrev pub joined : List (List ℕ) → List ℕ
joined parts = flat_map (λ part. part) parts

-- so many slices are the front of so many bytes
slices_front : (count n : ℕ) (bytes : List ℕ) → joined (wire_equal_chunks count n bytes)
    ≡ take (count * n) bytes
slices_front zero n bytes = rw zero-mul refl
slices_front (suc count) n bytes = let size : suc count * n ≡ n + count * n = grind arith in
    rw (size, take-add n (count * n) bytes, slices_front count n (drop n bytes)) refl

pub cut_all : (head : ℕ) (bytes : List ℕ) → joined (wire_chunks_behind_head head bytes) ≡ bytes
cut_all head bytes =
    let rest = drop head bytes in
    let count = div_ceil (length bytes - head) most_of_wire_chunk in
    let enough : length rest ≤ count * most_of_wire_chunk = omega (
      arith,
      length-drop head bytes,
      (div_ceil_times (length bytes - head) most_of_wire_chunk (omega arith)).0,
    ) in
    rw (slices_front count most_of_wire_chunk rest, take_all (count * most_of_wire_chunk) rest enough)
    (take-append-drop head bytes)

joined-wire_chunks : (fs : List (List ℕ)) → joined (map chunk_in_wire_frame fs) ≡ flat_map chunk_in_wire_frame fs
joined-wire_chunks [] = refl
joined-wire_chunks (f ∷ fs) = ap (λ bytes. chunk_in_wire_frame f ++ bytes) (joined-wire_chunks fs)

-- ---- frames at rising places

pub rising_few : (from count : ℕ) (fs : List (List ℕ)) → AreWireFramesRising from count fs → length fs ≤ count - from
rising_few from count [] rising = omega arith
rising_few from count (f ∷ fs) rising =
    let others = rising_few (place_in_wire_frame f + 1) count fs rising.2 in
    let below = rising.1.below in omega (arith, rising.0)

-- as many as the count are those of their chunks
pub framed_again : (from count : ℕ) (fs : List (List ℕ)) → AreWireFramesRising from count fs → length fs + from ≡ count
    → fs ≡ wire_frames_from from count (map chunk_in_wire_frame fs)
framed_again from count [] rising all = refl
framed_again from count (f ∷ fs) rising all =
    let others = rising_few (place_in_wire_frame f + 1) count fs rising.2 in
    let below = rising.1.below in
    let here : place_in_wire_frame f ≡ from = omega (arith, rising.0) in
    let next : AreWireFramesRising (from + 1) count fs = subst (λ place. AreWireFramesRising (place + 1) count fs) here rising.2 in
    let rest : fs ≡ wire_frames_from (from + 1) count (map chunk_in_wire_frame fs) = framed_again (from + 1) count
    fs next (omega arith) in
    ap (λ g. g ∷ fs) (rising.1.whole ∙ ap (λ place. frame place count (chunk_in_wire_frame f)) here)
    ∙ ap (λ gs. frame from count (chunk_in_wire_frame f) ∷ gs) rest

-- ---- the message of frames

-- the chunks of a message's frames are its chunks
pub their_chunks : (m : Message) (fs : List (List ℕ)) → AreWireFrames m fs → map chunk_in_wire_frame fs ≡ wire_chunks m
their_chunks m fs are = cc (are.frames_are, chunks_of_frames 0 (length (wire_chunks m)) (wire_chunks m))

-- the chunks of a message's frames are its spelling
pub spelled_by : (m : Message) (fs : List (List ℕ)) → AreWireFrames m fs
    → IsWireSpelling m (flat_map chunk_in_wire_frame fs)
spelled_by m fs are = record {
  fits = are.fits;
  spelled = sym (joined-wire_chunks fs) ∙ ap joined (their_chunks m fs are)
      ∙ cut_all (wire_first_chunk_len m.body (message.spell m)) (message.spell m);
}

-- frames whose chunks are those of a message's spelling are its frames
pub frames_by : (m : Message) (bytes : List ℕ) (fs : List (List ℕ)) → AreWireFramesRising 0 (length fs) fs → IsWireSpelling m bytes
    → map chunk_in_wire_frame fs ≡ wire_chunks_behind_head (wire_first_chunk_len m.body bytes) bytes → AreWireFrames m fs
frames_by m bytes fs rising spelled are_cut =
    let len : length fs ≡ length (map chunk_in_wire_frame fs) = sym (length-map fs chunk_in_wire_frame) in record {
      fits = spelled.fits;
      frames_are = framed_again 0 (length fs) fs rising (omega arith)
          ∙ ap (λ k. wire_frames_from 0 k (map chunk_in_wire_frame fs)) len ∙ ap wire_frames_of (are_cut
          ∙ ap (λ bytes. wire_chunks_behind_head (wire_first_chunk_len m.body bytes) bytes) spelled.spelled);
    }

-- frames of another cut are those of no message
pub none_by : (m : Message) (bytes : List ℕ) (fs : List (List ℕ)) → bytes ≡ flat_map chunk_in_wire_frame fs
    → IsWireSpelling m bytes → (map chunk_in_wire_frame fs ≡ wire_chunks_behind_head (wire_first_chunk_len m.body bytes) bytes → ⊥)
    → (other : Message) → AreWireFrames other fs → ⊥
none_by m bytes fs joined spelled not_cut other are =
    let same : other ≡ m = one_message bytes other m (subst (IsWireSpelling other) (sym joined) (spelled_by other fs are)) spelled in
    not_cut (their_chunks m fs (subst (λ n. AreWireFrames n fs) same are)
    ∙ ap (λ bytes. wire_chunks_behind_head (wire_first_chunk_len m.body bytes) bytes) (sym spelled.spelled))

-- frames whose chunks spell no message are those of none
pub none_spelled : (fs : List (List ℕ)) (bytes : List ℕ) (error : Failure Malformed)
    → bytes ≡ flat_map chunk_in_wire_frame fs → IfRefused (λ _. (m : Message) → IsWireSpelling m bytes → ⊥) error
    → IfRefused (λ _. AreNoWireMessageFrames fs (length fs)) error
none_spelled fs bytes error are =
    IfRefused-weaker (λ _. (m : Message) → IsWireSpelling m bytes → ⊥) (λ _. AreNoWireMessageFrames fs (length fs))
    (λ _ none. (refl, λ m frames. none m (rw are (spelled_by m fs frames)))) error
