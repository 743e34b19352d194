use Rattle.std.proofs.Common.{◌≡◌, flat_map, take}
use Rattle.shelf.specs.Exports.{sink_with_gained}
use Rattle.shelf.proofs.output.write_pieces.Given as goal

abbrev pub invariant-loop-piece : goal.invariant-loop-piece
invariant-loop-piece g l = record {
  written : (g.K.Sink.state l.sink).bytes ≡ sink_with_gained (g.K.Sink.state l.fn.sink).bytes
      (flat_map (λ piece. piece.now) (take l.piece-index l.pieces));
  faults : (g.K.Sink.state l.sink).faults ≡ (g.K.Sink.state l.fn.sink).faults;
}
