use Rattle.std.proofs.Common.{arith, subst, sym}
use Rattle.wire.specs.Exports.{IsWireSpelling}
use Rattle.message_bag.proofs.BagMessagesOut.{alone_are, long_alone, rest_is, spelled_alone}
use Rattle.message_bag.proofs.reading.bag_message_of_frame.Goals as goal

pub slice_bounds-decode-count : goal.slice_bounds-decode-count
slice_bounds-decode-count c = omega (arith, long_alone c.args.frame.now c.requires)

pub slice_bounds-decode-start : goal.slice_bounds-decode-start
slice_bounds-decode-start c = omega (arith, long_alone c.args.frame.now c.requires)

pub unreachable-requires : goal.unreachable-requires
unreachable-requires c =
    (rw c.in-Err-Refused.field-0-is at c.in-Err-Refused.ensures.malformed) c.requires.0
    (subst (IsWireSpelling c.requires.0) (sym (rest_is c.args.frame.now)) (spelled_alone c.args.frame.now c.requires))

pub returns-in-Ok : goal.returns-in-Ok
returns-in-Ok c =
    alone_are c.args.frame.now _ c.in-Ok.message c.requires (rest_is c.args.frame.now) c.in-Ok.ensures.found
