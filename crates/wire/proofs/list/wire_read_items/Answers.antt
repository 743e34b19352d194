use Rattle.base.proofs.Exports.{err_from_is_err_and}
use Rattle.wire.proofs.WireItemLoops.{goes_on, stops, is_done}
use Rattle.wire.specs.Exports.{wire_read_items}
use Rattle.wire.proofs.list.wire_read_items.Goals as goal

pub returns-in_err-read : goal.returns-in_err-read
returns-in_err-read g c =
    let f = g.T.Part.format in
    let p = err_from_is_err_and c.from_residual-in_err-read.result c.from_residual-in_err-read.ensures.1 in
    rw (p.1, p.2)
    (stops f c.loop.items.items c.args.count c.loop.counter c.loop.reader
    (wire_read_items f c.args.count c.args.reader.now) c.in_err-read.field-0.0 c.loop-test.true
    c.in_err-read.ensures c.loop.invariant)

pub loop-preserved : goal.loop-preserved
loop-preserved g c = let f = g.T.Part.format in
    rw c.in_ok-push.ensures.items
    (goes_on f c.loop.items.items c.args.count c.loop.counter c.loop.reader c.in_ok-read.field-0 c.read.new.reader
    (wire_read_items f c.args.count c.args.reader.now) c.loop-test.true c.in_ok-read.ensures c.loop.invariant)

pub returns : goal.returns
returns g c = let f = g.T.Part.format in
    is_done f c.loop.items.items c.args.count c.loop.counter c.loop.reader
    (wire_read_items f c.args.count c.args.reader.now) c.loop-test.false c.loop.invariant
