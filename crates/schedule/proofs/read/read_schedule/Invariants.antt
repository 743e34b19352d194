use Rattle.std.proofs.Common.{◌-◌, ◌≡◌, ◌≤◌, length}
use Rattle.schedule.specs.Reading.{schedule_of}
use Rattle.schedule.proofs.ScheduleRowsInTurn.{goes_on}
use Rattle.schedule.proofs.read.read_schedule.Given as goal

-- what is left gives what the whole text gives
abbrev pub invariant-loop-events : goal.invariant-loop-events
invariant-loop-events l = record {
  same : goes_on l.net l.files l.events.items l.records ≡ schedule_of l.net l.files l.bytes;
  few : length l.events.items ≤ 100000;
}

abbrev pub decreases-loop-events : goal.decreases-loop-events
decreases-loop-events l = 100000 - length l.events.items
