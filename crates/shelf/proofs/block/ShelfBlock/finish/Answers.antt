use Rattle.shelf.proofs.SinkBlockWrites.{part_if_failed}
use Rattle.shelf.proofs.block.ShelfBlock.finish.Goals as goal

pub returns-clause-part : goal.returns-clause-part
returns-clause-part g c = λ text before gathered.
    let now = (g.K.Sink.state c.args.sink.now).bytes in
    let later = (g.K.Sink.state c.write_whole.new.sink).bytes in
    part_if_failed c.write_whole.result text before now later c.args.self gathered
    (rw (← c.bytes.ensures) c.write_whole.ensures.after.part)
