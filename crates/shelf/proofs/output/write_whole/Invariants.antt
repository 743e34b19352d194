use Rattle.std.proofs.Common.{[], ◌-◌, ◌≡◌, ◌≤◌, length, take}
use Rattle.shelf.specs.Exports.{sink_with_gained}
use Rattle.shelf.proofs.output.write_whole.Given as goal

abbrev pub invariant-loop-written : goal.invariant-loop-written
invariant-loop-written g l = record {
  within : l.written ≤ length l.bytes;
  written : (g.K.Sink.state l.sink).bytes ≡ sink_with_gained (g.K.Sink.state l.initial.sink).bytes
      (take l.written l.bytes);
  untouched : l.bytes ≡ [] → l.sink ≡ l.initial.sink;
  faults : (g.K.Sink.state l.sink).faults ≡ (g.K.Sink.state l.initial.sink).faults;
}

abbrev pub decreases-loop-written : goal.decreases-loop-written
decreases-loop-written g l = length l.bytes - l.written
