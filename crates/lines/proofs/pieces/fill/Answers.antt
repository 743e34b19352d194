use Rattle.std.proofs.Common.{◌-◌, ◌∙◌, ◌≡◌, arith, length, length-take-le, take}
use Rattle.std.proofs.lemmas.Slice.{take-put_mid}
use Rattle.lines.proofs.LinePieceLemmas.{part}
use Rattle.lines.proofs.pieces.fill.Goals as goal

pub returns : goal.returns
returns c =
    let len = c.args.len in
    let bytes = c.args.bytes.now in
    let piece = c.args.piece.now in
    let held : length (take len bytes) ≡ len = length-take-le len bytes (omega arith) in
    let some : length (take (2048 - len) piece) ≡ 2048 - len =
    length-take-le (2048 - len) piece (omega arith) in
    rw c.copy_from_slice.ensures.after
    (take-put_mid len (2048 - len) bytes (take (2048 - len) piece) 2048 (omega arith) (omega arith)
    ∙ part (take len bytes) piece (2048 - len) (omega arith))
