use Rattle.std.proofs.Common.{◌-◌, ◌≡◌}
use Rattle.wire.specs.Exports.{wire_read_items}
use Rattle.wire.proofs.WireItemLoops.{with_front}
use Rattle.wire.proofs.list.wire_read_items.Given as goal

abbrev pub invariant-loop : goal.invariant-loop
invariant-loop g l = let f = g.T.Part.format in
    with_front l.items.items (wire_read_items f (l.count - l.counter) l.reader)
    ≡ wire_read_items f l.count l.fn.reader
