use Rattle.std.proofs.Common.{take}
use Rattle.meters.specs.Exports.{seen_meter_board}
use Rattle.replay.specs.Leavings.{ReplayMetersStayOn, replay_left_in}
use Rattle.replay.proofs.noting.replay_note_left_packets.Given as goal

abbrev pub invariant-loop-item : goal.invariant-loop-item
invariant-loop-item g l = ReplayMetersStayOn (replay_left_in (take l.item-index l.fn.items))
    (seen_meter_board g.M.Meter.seen l.fn.board) (seen_meter_board g.M.Meter.seen l.board)
