use Rattle.std.proofs.Common.{◌-◌, ap, arith, length, length-drop, length-take, ℕ}
use Rattle.shelf.proofs.SinkPieceWrites.{gained_more}
use Rattle.shelf.proofs.output.write_whole.Goals as goal

pub loop-written-preserved : goal.loop-written-preserved
loop-written-preserved g c =
    let bytes = c.args.bytes.now in
    let rest = length bytes - c.loop-written.written in
    let more = gained_more (g.K.Sink.state c.args.sink.now).bytes bytes c.loop-written.written rest
    c.min.result c.in_ok-taken.taken c.in_ok-taken.ensures.within in record {
      within = omega (
        arith,
        c.in_ok-taken.ensures.within,
        length-take {A = ℕ},
        length-drop {A = ℕ},
      );
      written = cc (more, c.in_ok-taken.ensures.taken);
      untouched = λ empty. absurd (omega (arith, ap length empty));
      faults = grind arith;
    }
