use Rattle.std.proofs.Common.{ap, arith, length}
use Rattle.travelling.specs.Travelling.{TravellingFlightHasPlace}
use Rattle.travelling.proofs.TravellingMasks.{within_and}
use Rattle.travelling.proofs.travelling.Travelling.move_to.Goals as goal

pub move_packet_slot-requires-clause-room : goal.move_packet_slot-requires-clause-room
move_packet_slot-requires-clause-room c =
    let there = within_and (TravellingFlightHasPlace c.args.place) c.args.self.now c.args.packet c.requires in
    c.self.invariant.room c.args.packet (omega (arith, there, ap length c.self.view_is))
