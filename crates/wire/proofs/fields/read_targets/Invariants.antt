use Rattle.std.proofs.Common.{◌-◌, ◌≡◌, ◌≤◌, length, take}
use Rattle.wire.specs.Exports.{wire_read_items, switch}
use Rattle.wire.proofs.WireItemLoops.{with_front}
use Rattle.wire.proofs.fields.read_targets.Given as goal

abbrev pub invariant-loop-place : goal.invariant-loop-place
invariant-loop-place l = record {
  few : l.count ≤ 4;
  long : length l.switches ≡ 4;
  so_far : with_front (take l.place l.switches) (wire_read_items switch (l.count - l.place) l.reader)
      ≡ wire_read_items switch l.count l.initial.reader;
}
