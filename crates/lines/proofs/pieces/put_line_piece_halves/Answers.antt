use Rattle.std.proofs.Common.{arith}
use Rattle.lines.proofs.LinePieceLemmas.{halves}
use Rattle.lines.proofs.pieces.put_line_piece_halves.Goals as goal

pub returns : goal.returns
returns g c = rw (
  c.copy_from_slice-3.ensures.after,
  c.copy_from_slice-4.ensures.after,
  c.copy_from_slice.ensures.after,
  c.copy_from_slice-2.ensures.after,
)
    (halves g.row.N c.args.len c.args.bytes.now c.args.piece.now c.requires.long
    c.requires.short (omega arith))
