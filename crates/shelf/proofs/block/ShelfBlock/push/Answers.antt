use Rattle.std.proofs.Common.{◌++◌, List, subst, sym, ℕ}
use Rattle.shelf.specs.Exports.{IsSinkBlockGathered}
use Rattle.shelf.proofs.SinkBlockWrites.{all_written, part_longer, part_written, waits_alone}
use Rattle.shelf.proofs.block.ShelfBlock.push.Goals as goal

pub returns-clause-gathered : goal.returns-clause-gathered
returns-clause-gathered g c = λ text before gathered. let piece = c.args.piece.now in
    let now = (g.K.Sink.state c.args.sink.now).bytes in
    let later = (g.K.Sink.state c.write_whole.new.sink).bytes in
    subst (λ (waiting : List ℕ). IsSinkBlockGathered (text ++ piece) before later waiting)
    (sym c.put-2.ensures)
    (waits_alone text piece before later (all_written text before now later c.args.self.now gathered
    (rw (← c.bytes.ensures) c.in_ok-write_whole.ensures.after.whole)))

pub returns-in_err-write_whole-clause-part : goal.returns-in_err-write_whole-clause-part
returns-in_err-write_whole-clause-part g c = λ text before gathered.
    let now = (g.K.Sink.state c.args.sink.now).bytes in
    let later = (g.K.Sink.state c.write_whole.new.sink).bytes in
    part_longer c.from_residual.result text c.args.piece.now before later
    (part_written text before now later c.args.self.now gathered
    (rw (← c.bytes.ensures) c.in_err-write_whole.ensures.after.part))
