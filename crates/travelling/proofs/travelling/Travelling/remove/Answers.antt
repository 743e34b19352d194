use Rattle.std.proofs.Common.{◌<◌, ap, arith, length}
use Rattle.travelling.proofs.TravellingMasks.{within_some}
use Rattle.travelling.proofs.travelling.Travelling.remove.Goals as goal

pub set_packet_slot-requires-clause-room : goal.set_packet_slot-requires-clause-room
set_packet_slot-requires-clause-room c =
    let so = c.has.ensures in
    let held = c.if-not-has.false in
    let there : c.args.packet < length c.args.self.now =
    within_some c.args.self.now c.args.packet cc in
    c.self.invariant.room c.args.packet (omega (arith, there, ap length c.self.view_is))
