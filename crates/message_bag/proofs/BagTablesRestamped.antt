-- The same tables under another version: only the four bytes of the version differ.
use Rattle.std.proofs.Common.{◌&&◌, ◌++◌, ◌+◌, ◌-◌, ◌<◌, ◌^◌, ◌∙◌, ◌∷◌, ◌≡◌, List, ap, append_assoc, arith, drop, drop_at, length, length-append, lt-ltb, refl, suc, sym, take, take_at, true, ℕ}
use Rattle.base.proofs.Exports.{and_parts, div_ceil, div_ceil_times, drop-append-add, take-append-add}
use Rattle.ctrl_msg.specs.declared.message.Place.{Place}
use Rattle.ctrl_msg.specs.declared.message.Body.TheVariants.{Install}
use Rattle.switch_table.specs.declared.tables.Tables.{Tables}
use Rattle.wire.specs.Exports.{wire_equal_chunks, frame, frames, wire_frames_from, wire_frames_of_version, wire_list_of, most_of_wire_chunk, n4, partition, region, wire_spelled_front, tables}
use Rattle.wire.proofs.WireFrameBytes.{length_n4}
use Rattle.message_bag.specs.Exports.{bag_install_frame_count, bag_table_chunks, bag_table_frames}
use Rattle.message_bag.proofs.BagInstallationSpelling.{installed}

-- ---- the chunks

-- what tables spell behind their version
abbrev rows : Tables → List ℕ
rows t = (wire_list_of n4 region).spell t.parts ++ (wire_list_of n4 partition).spell t.auth

spelled : (t : Tables) → tables.spell t ≡ n4.spell t.version ++ rows t
unfolding tables
spelled t = refl

-- the chunks behind the first one
abbrev others : List ℕ → List (List ℕ)
others rest = wire_equal_chunks (div_ceil (4 + length rest) most_of_wire_chunk - 1) most_of_wire_chunk
    (drop 16372 rest)

begin : (head rest : List ℕ) → length head ≡ 4
    → wire_equal_chunks (div_ceil (length (head ++ rest)) most_of_wire_chunk) most_of_wire_chunk (head ++ rest)
    ≡ (head ++ take 16372 rest) ∷ others rest
begin head rest len =
    let bytes = head ++ rest in
    let long : length bytes ≡ 4 + length rest = omega (arith, length-append head rest) in
    let some : div_ceil (length bytes) most_of_wire_chunk
    ≡ suc (div_ceil (4 + length rest) most_of_wire_chunk - 1) =
    omega (arith, ap (λ n. div_ceil n most_of_wire_chunk) long, div_ceil_times) in
    let whole : most_of_wire_chunk ≡ length head + 16372 = omega arith in
    let first = ap (λ n. take n bytes) whole ∙ take-append-add head rest 16372 in
    ap (λ count. wire_equal_chunks count most_of_wire_chunk bytes) some
    ∙ ap (λ f. f ∷ wire_equal_chunks (div_ceil (4 + length rest) most_of_wire_chunk - 1) most_of_wire_chunk
    (drop most_of_wire_chunk bytes)) first
    ∙ ap (λ bytes. (head ++ take 16372 rest)
    ∷ wire_equal_chunks (div_ceil (4 + length rest) most_of_wire_chunk - 1) most_of_wire_chunk bytes)
    (ap (λ n. drop n bytes) whole ∙ drop-append-add head rest 16372)

chunks_are : (t : Tables) → bag_table_chunks t ≡ (n4.spell t.version ++ take 16372 (rows t))
    ∷ others (rows t)
chunks_are t = cc (spelled t, begin (n4.spell t.version) (rows t) (length_n4 t.version))

-- ---- the frames

count_is : (t : Tables) → bag_install_frame_count t ≡ suc (length (others (rows t))) + 1
count_is t = ap (λ (parts : List (List ℕ)). length parts + 1) (chunks_are t)

pub same_count : (version : ℕ) (t : Tables) → bag_install_frame_count (record t { version = version }) ≡ bag_install_frame_count t
same_count version t = count_is (record t { version = version }) ∙ sym (count_is t)

frames_are : (t : Tables) → bag_table_frames t
    ≡ frame 1 (bag_install_frame_count t) (n4.spell t.version ++ take 16372 (rows t)) ∷ wire_frames_from 2 (bag_install_frame_count t) (others (rows t))
frames_are t = ap (wire_frames_from 1 (bag_install_frame_count t)) (chunks_are t)

-- a frame whose chunk begins with other bytes
pub replaced : (place count : ℕ) (head new rest : List ℕ) (end : ℕ) → end ≡ 8 + length head
    → take 8 (frame place count (head ++ rest)) ++ new ++ drop end (frame place count (head ++ rest))
    ≡ frame place count (new ++ rest)
unfolding frame
replaced place count head new rest end is =
    let header = n4.spell place ++ n4.spell count in
    let eight : length header ≡ 8 =
    omega (arith, length-append (n4.spell place) (n4.spell count), length_n4 place, length_n4 count) in
    let front : take 8 (header ++ (head ++ rest)) ≡ header = take_at header (head ++ rest) 8 eight in
    let back : drop end (header ++ (head ++ rest)) ≡ rest =
    ap (drop end) (sym (append_assoc header head rest))
    ∙ drop_at (header ++ head) rest end (omega (arith, length-append header head)) in
    ap (λ h. h ++ new ++ drop end (header ++ (head ++ rest))) front
    ∙ ap (λ r. header ++ new ++ r) back
    ∙ append_assoc header new rest

-- behind a first frame
pub behind : (version : ℕ) (first : List ℕ) (t : Tables)
    → wire_frames_of_version version (first ∷ bag_table_frames t) ≡ first ∷ bag_table_frames (record t { version = version })
behind version first t =
    let count = bag_install_frame_count t in
    let rest = take 16372 (rows t) in
    let last = wire_frames_from 2 count (others (rows t)) in
    ap (λ fs. wire_frames_of_version version (first ∷ fs)) (frames_are t)
    ∙ ap (λ f. first ∷ f ∷ last) (replaced 1 count (n4.spell t.version) (n4.spell version) rest 12 (omega (arith, length_n4 t.version)))
    ∙ ap (λ n. first ∷ frame 1 n (n4.spell version ++ rest) ∷ wire_frames_from 2 n (others (rows t))) (sym (same_count version t))
    ∙ ap (λ fs. first ∷ fs) (sym (frames_are (record t { version = version })))

pub of_another_version : (to : Place) (boot version : ℕ) (t : Tables)
    → frames (record { to = to; body = Install boot (record t { version = version }) })
    ≡ wire_frames_of_version version (frames (record { to = to; body = Install boot t }))
of_another_version to boot version t =
    installed to boot (record t { version = version })
    ∙ ap (λ n. frame 0 n (wire_spelled_front to boot) ∷ bag_table_frames (record t { version = version })) (same_count version t)
    ∙ sym (behind version (frame 0 (bag_install_frame_count t) (wire_spelled_front to boot)) t)
    ∙ ap (wire_frames_of_version version) (sym (installed to boot t))

-- ---- which tables have a spelling

pub fits_too : (version : ℕ) (t : Tables) → version < 2 ^ 32 → tables.fits t ≡ true
    → tables.fits (record t { version = version }) ≡ true
unfolding tables n4
fits_too version t few fits =
    let parts =
    and_parts (n4.fits t.version) ((wire_list_of n4 region).fits t.parts && (wire_list_of n4 partition).fits t.auth) fits in
    rw (lt-ltb version (2 ^ 32) few, parts.1) refl
