-- Pieces put behind the first bytes of a line's array.
use Rattle.std.proofs.Common.{◌++◌, ◌+◌, ◌-◌, ◌∙◌, ◌≡◌, ◌≤◌, List, ap, append_assoc, ap₂, arith, drop, length, length-append, length-drop, length-take, length-take-le, sym, take, take-append-drop, take-take, take_all, ℕ}
use Rattle.std.proofs.Math.Seq.{take-append-add}
use Rattle.std.proofs.lemmas.Slice.{take-put_mid}
use borrow.Rule.Slice.PartMut.{put_mid}
use Rattle.lines.specs.Pushes.{line_with}

-- a piece for which there is room
pub whole : (line piece : List ℕ) → length line + length piece ≤ 2048
    → line ++ piece ≡ line_with line piece
unfolding line_with
whole line piece fits =
    sym (take_all 2048 (line ++ piece) (omega (arith, fits, length-append line piece)))

-- the front of a piece that fills the line
pub part : (line piece : List ℕ) (room : ℕ) → 2048 ≡ length line + room
    → line ++ take room piece ≡ line_with line piece
unfolding line_with
part line piece room full = sym
    (ap (λ n. take n (line ++ piece)) full ∙ take-append-add line piece room)

-- the first bytes of a piece, and then the last ones, from a place within the first
pub halves : (n len : ℕ) (old piece : List ℕ) → n ≤ length piece
    → length piece ≤ n + n → len + length piece ≤ length old
    → take (len + length piece) (put_mid (len + (length piece - n))
    (len + length piece - (len + (length piece - n))) (put_mid len (len + n - len) old
    (take n piece)) (take (length piece - (length piece - n)) (drop (length piece - n) piece)))
    ≡ take len old ++ piece
halves n len old piece long short room =
    let split = length piece - n in
    let back = take (length piece - split) (drop split piece) in
    let end : back ≡ drop split piece = take_all (length piece - split) (drop split piece)
    (omega (arith, length-drop split piece)) in
    let between = put_mid len (len + n - len) old (take n piece) in
    let held : length (take len old) ≡ len = length-take-le len old (omega arith) in
    let some : length (take n piece) ≡ n = length-take-le n piece long in
    let front : take (len + n) between ≡ take len old ++ take n piece =
    take-put_mid len (len + n - len) old (take n piece) (len + n) (omega arith) (omega arith) in
    let reach : len + n ≤ length between = omega (
      arith,
      length-take (len + n) between,
      ap length front,
      length-append (take len old) (take n piece),
    ) in
    let seam : take (len + split) between ≡ take len old ++ take split piece =
    sym (take-take (len + split) (len + n) between (omega arith)) ∙ ap (take (len + split)) front
    ∙ sym (ap (λ k. take (k + split) (take len old ++ take n piece)) held)
    ∙ take-append-add (take len old) (take n piece) split
    ∙ ap (λ xs. take len old ++ xs) (take-take split n piece (omega arith)) in
    take-put_mid (len + split) (len + length piece - (len + split)) between back
    (len + length piece) (omega (arith, ap length end, length-drop split piece)) (omega arith)
    ∙ ap₂ (λ xs ys. xs ++ ys) seam end
    ∙ append_assoc (take len old) (take split piece) (drop split piece)
    ∙ ap (λ xs. take len old ++ xs) (take-append-drop split piece)
