use Rattle.std.proofs.Common.{take}
use Rattle.wire.specs.Exports.{AppendsEncodedItems}
use Rattle.wire.proofs.list.put_wire_items.Given as goal

abbrev pub invariant-loop-item : goal.invariant-loop-item
invariant-loop-item g l =
    AppendsEncodedItems g.T.Part.format (take l.item-index l.items) l.fn.out.items l.out.items
