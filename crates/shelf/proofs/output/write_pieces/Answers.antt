use Rattle.std.proofs.Common.{Bor, List, drop, flat_map, suc, take, ℕ}
use Rattle.base.proofs.Exports.{flat_map-at}
use Rattle.shelf.proofs.SinkGains.{piece_cut}
use Rattle.shelf.proofs.output.write_pieces.Goals as goal

pub returns-in-Err : goal.returns-in-Err
returns-in-Err g c =
    let pieces = c.args.pieces.now in
    let i = c.loop-piece.piece-index in
    let view = λ (piece : Bor (List ℕ)). piece.now in
    piece_cut (g.K.Sink.state c.args.sink.now) (g.K.Sink.state c.loop-piece.sink)
    (g.K.Sink.state c.write_whole.new.sink) (flat_map view (take i pieces)) _
    (flat_map view (drop (suc i) pieces)) _ g.K.Sink.takes_memory _
    c.loop-piece.invariant.written c.loop-piece.invariant.faults c.in-Err.ensures.after
    (flat_map-at view pieces i _ c.loop-piece-test.true)
