use Rattle.world.specs.Exports.{world_setting_at}
use Rattle.std.proofs.Common.{[], ◌+◌, ◌≡◌, ◌≤◌, List, Option, drop, false, map, ℕ}
use Rattle.update_machine.specs.Exports.{Item}
use Rattle.meters.specs.Exports.{meter_board_after, seen_meter_board}
use Rattle.replay.specs.Leavings.{replay_left_in}
use Rattle.replay.proofs.ReplayEventPlays.{PlaysOn}
use Rattle.replay.proofs.playing.play.Given as goal

abbrev pub invariant-loop-event : goal.invariant-loop-event
invariant-loop-event g l = record {
  rows : l.row ≡ l.event-index;
  setting : world_setting_at l.world ≡ world_setting_at l.fn.world;
  able : l.world.is_spent ≡ false;
  packets : l.world.packets ≤ l.row;
  plays_on : (whole : List Item) (stop : Option ℕ)
      → PlaysOn (world_setting_at l.fn.world) l.world.journal (l.row + 1) (drop l.event-index l.events) whole
      stop → PlaysOn (world_setting_at l.fn.world) [] 1 l.events whole stop;
  board : seen_meter_board g.M.Meter.seen l.board
      ≡ meter_board_after l.fn.ports (replay_left_in l.world.journal) (map g.M.Meter.seen l.fn.meters.items);
}
