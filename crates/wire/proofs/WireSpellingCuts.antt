-- Cutting a spelling into chunks and the chunks into frames, one after the other.
use Rattle.std.proofs.Common.{[], ◌++◌, ◌+◌, ◌-◌, ◌<◌, ◌^◌, ◌∙◌, ◌∷◌, ◌≡◌, List, add-one, ap, append_assoc, arith, drop, drop-cons, get_or, length, refl, suc, sym, take, zero, ℕ}
use Rattle.base.proofs.Exports.{div_ceil, div_ceil_times}
use Rattle.wire.specs.Exports.{wire_chunks_behind_head, wire_equal_chunks, frame, wire_frames_from, most_of_wire_chunk}

pub goes_on : (front : List (List ℕ)) (count i n : ℕ) (left : List ℕ) (total : List (List ℕ))
    → i < count → front ++ wire_equal_chunks (count - i) n left ≡ total
    → (front ++ take n left ∷ []) ++ wire_equal_chunks (count - (i + 1)) n (drop n left) ≡ total
goes_on front count i n left total lt so_far =
    let k : count - i ≡ suc (count - (i + 1)) = omega arith in
    append_assoc front (take n left ∷ []) (wire_equal_chunks (count - (i + 1)) n (drop n left))
    ∙ ap (λ j. front ++ wire_equal_chunks j n left) (sym k) ∙ so_far

pub frames_go_on : (front : List (List ℕ)) (parts : List (List ℕ)) (count i : ℕ) (chunk : List ℕ)
    (total : List (List ℕ)) → i < length parts → chunk ≡ get_or parts i []
    → front ++ wire_frames_from i count (drop i parts) ≡ total
    → (front ++ frame i count chunk ∷ []) ++ wire_frames_from (i + 1) count (drop (i + 1) parts) ≡ total
frames_go_on front parts count i chunk total lt is so_far =
    let next : drop i parts ≡ get_or parts i [] ∷ drop (i + 1) parts = rw add-one (drop-cons parts i [] lt) in
    append_assoc front (frame i count chunk ∷ []) (wire_frames_from (i + 1) count (drop (i + 1) parts))
    ∙ ap (λ p. front ++ frame i count p ∷ wire_frames_from (i + 1) count (drop (i + 1) parts)) is
    ∙ ap (λ ps. front ++ wire_frames_from i count ps) (sym next) ∙ so_far

pub length-slices : (count n : ℕ) (bytes : List ℕ) → length (wire_equal_chunks count n bytes) ≡ count
length-slices zero n bytes = refl
length-slices (suc count) n bytes = ap suc (length-slices count n (drop n bytes))

pub few_chunks : (head : ℕ) (bytes : List ℕ) → length bytes < 2 ^ 40
    → length (wire_chunks_behind_head head bytes) < 2 ^ 32
few_chunks head bytes short = let count = div_ceil (length bytes - head) most_of_wire_chunk in
    omega (arith, length-slices, div_ceil_times)
