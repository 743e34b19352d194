use Rattle.world.specs.Exports.{world_setting_at}
use Rattle.std.proofs.Common.{◌+◌, ◌≡◌, false}
use Rattle.meters.specs.Exports.{seen_meter_board}
use Rattle.replay.specs.Leavings.{ReplayMetersKeepUp}
use Rattle.replay.proofs.ReplayAskedStep.{brought_so_far, steps_left}
use Rattle.replay.proofs.ReplayEventStepping.{Took}
use Rattle.replay.proofs.event_steps.take_event_steps.Given as goal

abbrev pub invariant-loop-next : goal.invariant-loop-next
invariant-loop-next g l = record {
  setting : world_setting_at l.world ≡ world_setting_at l.fn.world;
  able : l.world.is_spent ≡ false;
  packets : l.world.packets ≡ l.fn.world.packets + brought_so_far l.event l.is_begun;
  took : Took (world_setting_at l.fn.world) l.row l.event l.is_begun l.fn.world.journal l.world.journal;
  kept : ReplayMetersKeepUp l.fn.world.journal l.world.journal (seen_meter_board g.M.Meter.seen l.fn.board)
      (seen_meter_board g.M.Meter.seen l.board);
}

abbrev pub decreases-loop-next : goal.decreases-loop-next
decreases-loop-next g l = steps_left l.event l.is_begun l.world.journal
