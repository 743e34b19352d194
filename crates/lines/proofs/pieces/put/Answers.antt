use Rattle.std.proofs.Common.{◌∙◌, ◌≡◌, arith, length, length-take-le, take}
use Rattle.lines.proofs.LinePieceLemmas.{whole}
use Rattle.lines.proofs.pieces.put.Goals as goal

pub returns-then-piece-len-clause-held : goal.returns-then-piece-len-clause-held
returns-then-piece-len-clause-held c =
    let len = c.args.len in
    let bytes = c.args.bytes.now in
    let held : length (take len bytes) ≡ len = length-take-le len bytes (omega arith) in
    c.put_whole_piece.ensures ∙ whole (take len bytes) c.args.piece.now (omega arith)
