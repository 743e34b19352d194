use Rattle.std.proofs.Common.{arith, refl}
use Rattle.wire.specs.Exports.{word}
use Rattle.wire.proofs.WireFormatLaws.{items_count}
use Rattle.wire.proofs.fields.read_touched.Goals as goal

-- there are as many words as were counted, so they aren't too many
pub returns-in-None : goal.returns-in-None
returns-in-None c =
    let count = items_count word c.in_ok-count.count c.read_byte_count.new.reader
    c.in_ok-words.words.items c.wire_read_items.new.reader c.in_ok-words.ensures in
    absurd (omega (arith, count, c.in_ok-count.ensures.within.1, c.in-None.ensures.none.0 refl))
