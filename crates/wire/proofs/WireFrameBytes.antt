-- A frame is its place, the count and its chunk.
use Rattle.std.proofs.Common.{[], ◌++◌, ◌+◌, ◌<◌, ◌^◌, ◌∙◌, ◌∷◌, ◌≡◌, ◌≤◌, List, ap, append_assoc, arith, drop, drop-drop, drop_at, length, length-append, length-drop, length-take, map, refl, sym, take, take-append-drop, take_at, w32, ℕ}
use Rattle.base.proofs.Exports.{be_bytes_4, from_be_bytes, from_be_bytes-to_be_bytes_4}
use Rattle.wire.specs.Exports.{chunk_in_wire_frame, count_in_wire_frame, frame, wire_frames_from, n4, place_in_wire_frame, wire_spelled_number}
use Rattle.wire.proofs.WireFormatLaws.{AreBytes, AreBytes-drop, AreBytes-take}

pub length_n4 : (n : ℕ) → length (n4.spell n) ≡ 4
unfolding n4 wire_spelled_number
length_n4 n = refl

pub length_frame : (place count : ℕ) (chunk : List ℕ) → length (frame place count chunk)
    ≡ 8 + length chunk
unfolding frame
length_frame place count chunk = omega (
  arith,
  length-append (n4.spell place ++ n4.spell count) chunk,
  length-append (n4.spell place) (n4.spell count),
  length_n4 place,
  length_n4 count,
)

-- as the place, and what follows it
regroup : (place count : ℕ) (chunk : List ℕ) → frame place count chunk ≡ n4.spell place
    ++ (n4.spell count ++ chunk)
unfolding frame
regroup place count chunk = append_assoc (n4.spell place) (n4.spell count) chunk

behind : (place count : ℕ) (chunk : List ℕ) → drop 4 (frame place count chunk) ≡ n4.spell count
    ++ chunk
behind place count chunk = ap (drop 4) (regroup place count chunk)
    ∙ drop_at (n4.spell place) (n4.spell count ++ chunk) 4 (length_n4 place)

n4_back : (n : ℕ) → n < 2 ^ 32 → from_be_bytes w32 (n4.spell n) ≡ n
unfolding n4 wire_spelled_number
n4_back n lt = from_be_bytes-to_be_bytes_4 n lt

pub place_of_frame : (place count : ℕ) (chunk : List ℕ) → place < 2 ^ 32
    → place_in_wire_frame (frame place count chunk) ≡ place
unfolding place_in_wire_frame
place_of_frame place count chunk lt =
    ap (λ bytes. from_be_bytes w32 (take 4 bytes)) (regroup place count chunk)
    ∙ ap (from_be_bytes w32)
    (take_at (n4.spell place) (n4.spell count ++ chunk) 4 (length_n4 place)) ∙ n4_back place lt

pub count_of_frame : (place count : ℕ) (chunk : List ℕ) → count < 2 ^ 32
    → count_in_wire_frame (frame place count chunk) ≡ count
unfolding count_in_wire_frame
count_of_frame place count chunk lt = cc
    (behind place count chunk, take_at (n4.spell count) chunk 4 (length_n4 count), n4_back count lt)

pub chunk_of_frame : (place count : ℕ) (chunk : List ℕ) → chunk_in_wire_frame (frame place count chunk) ≡ chunk
unfolding frame
chunk_of_frame place count chunk =
    drop_at (n4.spell place ++ n4.spell count) chunk 8
    (omega (arith, length-append (n4.spell place) (n4.spell count), length_n4 place, length_n4 count))

pub chunks_of_frames : (place count : ℕ) (parts : List (List ℕ))
    → map chunk_in_wire_frame (wire_frames_from place count parts) ≡ parts
chunks_of_frames place count [] = refl
chunks_of_frames place count (part ∷ parts) = rw
    (chunk_of_frame place count part, chunks_of_frames (place + 1) count parts) refl

n4_again : (bytes : List ℕ) → length bytes ≡ 4 → AreBytes bytes → n4.spell (from_be_bytes w32 bytes) ≡ bytes
unfolding n4 wire_spelled_number
n4_again bytes len are = be_bytes_4 bytes _ len are refl

-- bytes are the frame that they say
pub frame_again : (bytes : List ℕ) → 8 ≤ length bytes → AreBytes bytes → bytes
    ≡ frame (place_in_wire_frame bytes) (count_in_wire_frame bytes) (chunk_in_wire_frame bytes)
unfolding frame place_in_wire_frame count_in_wire_frame
frame_again bytes long are =
    let place : n4.spell (from_be_bytes w32 (take 4 bytes)) ≡ take 4 bytes =
    n4_again (take 4 bytes) (omega (arith, length-take 4 bytes)) (AreBytes-take 4 bytes are) in
    let rest = drop 4 bytes in
    let count : n4.spell (from_be_bytes w32 (take 4 rest)) ≡ take 4 rest =
    n4_again (take 4 rest) (omega (arith, length-take 4 rest, length-drop 4 bytes)) (AreBytes-take 4 rest (AreBytes-drop 4 bytes are)) in
    let chunk : drop 4 rest ≡ drop 8 bytes = drop-drop 4 4 bytes in
    rw (place, count, ← chunk) (sym (append_assoc (take 4 bytes) (take 4 rest) (drop 4 rest)
    ∙ ap (λ u. take 4 bytes ++ u) (take-append-drop 4 rest) ∙ take-append-drop 4 bytes))
